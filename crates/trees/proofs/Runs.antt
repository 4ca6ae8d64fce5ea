-- A tree belongs to the states that its runs reach: a run of a node is a rule and runs of its children, and no more. From the definitions
-- alone; for the theorems of `simulation`, and for the languages that the preorder compares and the steps of reduction keep.
use Prim.Native.Nat.{ℕ, ◌<◌}
use native.Mathlib.Omega.{arith}
use mathlib.Core.Path.{◌≡◌, refl, ap, ap₂}
use mathlib.Core.Logic.{◌↔◌}
use mathlib.Core.List.{List, [], ◌∷◌}
use mathlib.Core.Bool.{true, false≢true}
use lib.Dec.{eqb}
use borrow.Author.Tests.{eqb-true, eq-eqb}
use Rattle.lists.specs.Lists.{from}
use Rattle.lists.proofs.Ranges.{from_member, member_from}
use Rattle.lists.proofs.Search.{any_in, any_out}
use Rattle.lists.proofs.Booleans.{and_true_in, and_true_out}
use Rattle.automaton.specs.Automaton.{Rule, Automaton}
use Rattle.trees.specs.Tree.{Tree, Trees, node, nil, cons, belongs, belong_in_order, accepts}
use Rattle.trees.specs.Subtree.{has_state}
use Rattle.trees.specs.Run.{Run, Runs, at, none, also, root, roots, tree_of, trees_of, RuleAt, IsRun, AreRuns, Reaches, Accepts}

-- Trees and states, position by position.
unfoldable pub ReachesAll : List Rule → Trees → List ℕ → Type 0
ReachesAll rules nil [] = Unit {0}
ReachesAll rules nil (q ∷ qs) = ⊥
ReachesAll rules (cons t ts) [] = ⊥
ReachesAll rules (cons t ts) (q ∷ qs) = Reaches rules t q × ReachesAll rules ts qs

record RunsOver (rules : List Rule) (ts : Trees) (qs : List ℕ) : Type 0 where
  runs : Runs
  over : trees_of runs ≡ ts
  ends : roots runs ≡ qs
  are_runs : AreRuns rules runs

module _ (rules : List Rule) where
  runs_over : (ts : Trees) (qs : List ℕ) → ReachesAll rules ts qs → RunsOver rules ts qs
  unfolding ReachesAll trees_of roots AreRuns
  runs_over nil [] h = record { runs = none; over = refl; ends = refl; are_runs = tt }
  runs_over nil (q ∷ qs) h = absurd h
  runs_over (cons t ts) [] h = absurd h
  runs_over (cons t ts) (q ∷ qs) h =
      let r = h.0 in
      let s = runs_over ts qs h.1 in
      record {
        runs = also r.run s.runs;
        over = ap₂ cons r.over s.over;
        ends = ap₂ ◌∷◌ r.ends s.ends;
        are_runs = (r.is_run, s.are_runs);
      }

  reaches_all : (rs : Runs) → AreRuns rules rs → ReachesAll rules (trees_of rs) (roots rs)
  unfolding ReachesAll trees_of roots AreRuns
  reaches_all none h = tt
  reaches_all (also r rs) h = (record { run = r; over = refl; ends = refl; is_run = h.0 }, reaches_all rs h.1)

module _ {rules : List Rule} {q f : ℕ} {ts : Trees} where
  pub reaches_node : {qs : List ℕ} → RuleAt rules q f qs → ReachesAll rules ts qs → Reaches rules (node f ts) q
  unfolding tree_of root IsRun
  reaches_node {qs} u h =
      let s = runs_over rules ts qs h in
      record {
        run = at q f s.runs;
        over = ap (node f) s.over;
        ends = refl;
        is_run = (rw s.ends u, s.are_runs);
      }

  pub node_reaches : Reaches rules (node f ts) q → (qs : List ℕ) × RuleAt rules q f qs × ReachesAll rules ts qs
  unfolding tree_of root IsRun
  node_reaches r = of r.run r.over r.ends r.is_run
    where
      of : (s : Run) → tree_of s ≡ node f ts → root s ≡ q → IsRun rules s →
          (qs : List ℕ) × RuleAt rules q f qs × ReachesAll rules ts qs
      of (at p g rs) over ends h =
          let symbol : g ≡ f = cc in
          let trees : trees_of rs ≡ ts = cc in
          (roots rs, rw (symbol, ends) at h.0, rw trees at (reaches_all rules rs h.1))

module _ (rules : List Rule) where
  mutual
    unfolding belongs ReachesAll

    pub belongs_reaches : (t : Tree) (q : ℕ) → belongs rules t q ≡ true → Reaches rules t q
    belongs_reaches (node f ts) q h =
        let u = any_out _ rules h in
        let a = and_true_out (eqb u.element.target q) _ u.passes in
        let b = and_true_out (eqb u.element.symbol f) (belong_in_order rules ts u.element.children) a.1 in
        reaches_node
        record { rule = u.element; is_rule = u.member; symbol = eqb-true _ _ b.0; target = eqb-true _ _ a.0; children = refl }
        (belong_in_order_reaches ts _ b.1)

    belong_in_order_reaches : (ts : Trees) (qs : List ℕ) → belong_in_order rules ts qs ≡ true → ReachesAll rules ts qs
    belong_in_order_reaches nil [] h = tt
    belong_in_order_reaches nil (q ∷ qs) h = absurd (false≢true h)
    belong_in_order_reaches (cons t ts) [] h = absurd (false≢true h)
    belong_in_order_reaches (cons t ts) (q ∷ qs) h =
        let a = and_true_out (belongs rules t q) (belong_in_order rules ts qs) h in
        (belongs_reaches t q a.0, belong_in_order_reaches ts qs a.1)

  mutual
    unfolding belongs ReachesAll

    pub reaches_belongs : (t : Tree) (q : ℕ) → Reaches rules t q → belongs rules t q ≡ true
    reaches_belongs (node f ts) q r =
        let (qs, u, below) = node_reaches r in
        let children : belong_in_order rules ts u.rule.children ≡ true = rw u.children (reaches_belong_in_order ts qs below) in
        any_in _ u.is_rule (and_true_in (eq-eqb _ _ u.target) (and_true_in (eq-eqb _ _ u.symbol) children))

    reaches_belong_in_order : (ts : Trees) (qs : List ℕ) → ReachesAll rules ts qs → belong_in_order rules ts qs ≡ true
    reaches_belong_in_order nil [] h = refl
    reaches_belong_in_order nil (q ∷ qs) h = absurd h
    reaches_belong_in_order (cons t ts) [] h = absurd h
    reaches_belong_in_order (cons t ts) (q ∷ qs) h = and_true_in (reaches_belongs t q h.0) (reaches_belong_in_order ts qs h.1)

module _ (A : Automaton) (t : Tree) where
  pub accepts_run : accepts A t ≡ true → Accepts A t
  unfolding accepts
  accepts_run h =
      let f = any_out _ A.finals h in
      record { state = f.element; final = f.member; reaches = belongs_reaches A.rules t f.element f.passes }

  pub run_accepts : Accepts A t → accepts A t ≡ true
  unfolding accepts
  run_accepts r = any_in _ r.final (reaches_belongs A.rules t r.state r.reaches)

-- A tree has a state exactly if it reaches one of the automaton's states.
pub has_state_reaches : (A : Automaton) (t : Tree) → (has_state A t ≡ true) ↔ ((q : ℕ) × (q < A.states) × Reaches A.rules t q)
unfolding has_state
has_state_reaches A t = (
  λ h.
      let f = any_out _ (from 0 A.states) h in
      (f.element, omega (arith, member_from A.states 0 f.element f.member), belongs_reaches A.rules t f.element f.passes),
  λ (q, low, r). any_in _ (from_member A.states 0 q (omega arith) (omega arith)) (reaches_belongs A.rules t q r),
)
