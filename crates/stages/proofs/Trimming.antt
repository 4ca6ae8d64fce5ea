-- Step 1: productive states are those that trees reach, for a rule of productive children builds a tree; so trimming loses no run. An
-- unproductive child has no match in what is left: this is no simulation but an induction on runs. From the laws of closures; for
-- `Agreement`, `Fixpoint`, `Sizes` and the code that finds the productive states.
use Prim.Native.Nat.{ℕ}
use native.Mathlib.Omega.{arith}
use mathlib.Core.Path.{◌≡◌, refl, sym, ◌∙◌}
use mathlib.Core.Logic.{inl, inr}
use mathlib.Core.List.Memᴰ
use mathlib.Core.List.{List, Memᴰ}
use mathlib.Core.Bool.{true, ◌&&◌}
use lib.Dec.{eqb}
use borrow.Author.Tests.{eqb-true, eq-eqb}
use Rattle.lists.specs.Lists.{all, from, among}
use Rattle.lists.proofs.Keeping.{keep_in, keep_out}
use Rattle.lists.proofs.Booleans.{and_true_in, and_true_out}
use Rattle.lists.proofs.Search.{any_in, any_out, all_in, all_out, among_in, among_out}
use Rattle.lists.proofs.Ranges.{from_rising, member_from}
use Rattle.lists.proofs.Elements.{member_all}
use Rattle.lists.proofs.Rising.{rising_keep}
use Rattle.automaton.specs.Automaton.{Rule, Automaton, WellFormed}
use Rattle.trees.specs.Tree.{Tree}
use Rattle.trees.specs.Run.{Run, Runs, at, none, also, tree_of, IsRun, AreRuns, Reaches, Accepts, Occurs, OccursIn}
use Rattle.simulation.proofs.Language.{simulates_reaches}
use Rattle.simulation.proofs.Preorder.{simulable_all}
use Rattle.stages.specs.Steps.{closure, buildable, productive, names_only, trimmed}
use Rattle.stages.specs.Inner.{Sound}
use Rattle.stages.proofs.Carrying.{ReachesFinal, part_simulates}
use Rattle.stages.proofs.Closure.{Monotone, closure_least, closure_states, closure_rising, closure_closed}
use Rattle.stages.proofs.Usefulness.{occurs_root, occurs_roots, rule_run}

-- A rule that builds a tree of state q from trees of states found before.
pub record Built (rules : List Rule) (earlier : List ℕ) (q : ℕ) : Type 0 where
  pub rule : Rule
  pub is_rule : Memᴰ rule rules
  pub target : rule.target ≡ q
  pub children : (p : ℕ) → Memᴰ p rule.children → Memᴰ p earlier

pub buildable_in : (rules : List Rule) (earlier : List ℕ) (u : Rule) → Memᴰ u rules
    → ((q : ℕ) → Memᴰ q u.children → Memᴰ q earlier) → buildable rules earlier u.target ≡ true
unfolding buildable
buildable_in rules earlier u m h =
    any_in (λ (v : Rule). eqb v.target u.target && all (among earlier) v.children) m
    (and_true_in (eq-eqb u.target u.target refl)
    (all_in (among earlier) u.children (λ q n. among_in (h q n))))

pub buildable_out : (rules : List Rule) (earlier : List ℕ) (q : ℕ) → buildable rules earlier q ≡ true → Built rules earlier q
unfolding buildable
buildable_out rules earlier q h =
    let u = any_out (λ (v : Rule). eqb v.target q && all (among earlier) v.children) rules h in
    let a = and_true_out (eqb u.element.target q) (all (among earlier) u.element.children) u.passes in
    record {
      rule = u.element;
      is_rule = u.member;
      target = eqb-true u.element.target q a.0;
      children = λ p m. among_out earlier p (all_out (among earlier) a.1 p m);
    }

pub buildable_monotone : (rules : List Rule) → Monotone (buildable rules)
unfolding Monotone
buildable_monotone rules xs ys more q h =
    let b = buildable_out rules xs q h in
    rw b.target at (buildable_in rules ys b.rule b.is_rule (λ p m. more p (b.children p m)))

module _ (A : Automaton) (w : WellFormed A) where
  pub productive_reached : (q : ℕ) → Memᴰ q (productive A) → (t : Tree) × Reaches A.rules t q
  unfolding productive
  productive_reached =
      closure_least (buildable A.rules) (from 0 A.states) (λ (q : ℕ). (t : Tree) × Reaches A.rules t q)
      (λ earlier h q m e.
      let b = buildable_out A.rules earlier q e in
      let (r, is_run, ends, occurs) = rule_run A.rules b.rule b.is_rule (λ p n. h p (b.children p n)) in
      (tree_of r, record { run = r; over = refl; ends = ends ∙ b.target; is_run = is_run }))

  target_productive : (u : Rule) → Memᴰ u A.rules
      → ((q : ℕ) → Memᴰ q u.children → Memᴰ q (productive A)) → Memᴰ u.target (productive A)
  unfolding productive
  target_productive u m h =
      closure_closed (buildable A.rules) (from 0 A.states) (buildable_monotone A.rules) u.target ((simulable_all A w).targets u m)
      (buildable_in A.rules (closure (buildable A.rules) (from 0 A.states)) u m h)

  mutual
    unfolding IsRun AreRuns Occurs OccursIn

    pub occurs_productive : (r : Run) → IsRun A.rules r → (p : ℕ) → Occurs p r → Memᴰ p (productive A)
    occurs_productive (at q f rs) h p (inl e) =
        let u = h.0 in
        Memᴰ.cast (e ∙ sym u.target) (target_productive u.rule u.is_rule
        (λ c m. occurs_in_productive rs h.1 c (occurs_roots rs c (rw u.children at m))))
    occurs_productive (at q f rs) h p (inr o) = occurs_in_productive rs h.1 p o

    occurs_in_productive : (rs : Runs) → AreRuns A.rules rs → (p : ℕ) → OccursIn p rs → Memᴰ p (productive A)
    occurs_in_productive none h p o = absurd o
    occurs_in_productive (also r rs) h p (inl o) = occurs_productive r h.0 p o
    occurs_in_productive (also r rs) h p (inr o) = occurs_in_productive rs h.1 p o

  pub reached_productive : (t : Tree) (q : ℕ) → Reaches A.rules t q → Memᴰ q (productive A)
  reached_productive t q r = occurs_productive r.run r.is_run q (occurs_root r.run q (sym r.ends))

  trimmed_in : (u : Rule) → Memᴰ u A.rules → Memᴰ u.target (productive A)
      → ((q : ℕ) → Memᴰ q u.children → Memᴰ q (productive A)) → Memᴰ u (trimmed A).rules
  unfolding trimmed names_only
  trimmed_in u m t h =
      keep_in (names_only (productive A)) m
      (and_true_in (among_in t) (all_in (among (productive A)) u.children (λ q n. among_in (h q n))))

  trimmed_out : (u : Rule) → Memᴰ u (trimmed A).rules → Memᴰ u A.rules
      × Memᴰ u.target (productive A) × ((q : ℕ) → Memᴰ q u.children → Memᴰ q (productive A))
  unfolding trimmed names_only
  trimmed_out u m =
      let k = keep_out (names_only (productive A)) A.rules m in
      let a = and_true_out (among (productive A) u.target) (all (among (productive A)) u.children) k.1 in (
        k.0,
        among_out (productive A) u.target a.0,
        λ q n. among_out (productive A) q (all_out (among (productive A)) a.1 q n),
      )

  pub trimmed_sound : Sound (trimmed A)
  unfolding trimmed productive
  trimmed_sound =
      record {
        rising = closure_rising (buildable A.rules) (from 0 A.states) (from_rising 0 A.states);
        low = member_all (productive A) (λ q m.
            let b = member_from A.states 0 q (closure_states (buildable A.rules) (from 0 A.states) q m) in
            omega (arith, w.states));
        finals_rising = rising_keep (among (productive A)) w.rising;
        finals = λ q m. among_out (productive A) q (keep_out (among (productive A)) A.finals m).1;
        targets = λ u m. (trimmed_out u m).1;
        children = λ u m. (trimmed_out u m).2;
      }

  mutual
    unfolding IsRun AreRuns Occurs

    run_trimmed : (r : Run) → IsRun A.rules r → IsRun (trimmed A).rules r
    run_trimmed (at q f rs) h =
        let u = h.0 in
        let left = occurs_productive (at q f rs) h in (
          record {
            rule = u.rule;
            is_rule = trimmed_in u.rule u.is_rule (left u.rule.target (inl u.target))
                (λ p m. left p (inr (occurs_roots rs p (rw u.children at m))));
            symbol = u.symbol;
            target = u.target;
            children = u.children;
          },
          runs_trimmed rs h.1,
        )

    runs_trimmed : (rs : Runs) → AreRuns A.rules rs → AreRuns (trimmed A).rules rs
    runs_trimmed none h = tt
    runs_trimmed (also r rs) h = (run_trimmed r h.0, runs_trimmed rs h.1)

  pub trimmed_reaches : (t : Tree) (q : ℕ) → Reaches A.rules t q → Reaches (trimmed A).rules t q
  trimmed_reaches t q r = record { run = r.run; over = r.over; ends = r.ends; is_run = run_trimmed r.run r.is_run }

  reaches_trimmed : (t : Tree) (q : ℕ) → Reaches (trimmed A).rules t q → Reaches A.rules t q
  reaches_trimmed t q =
      simulates_reaches (trimmed A).rules A.rules (λ (p r : ℕ). p ≡ r)
      (part_simulates (trimmed A).rules A.rules (λ u m. (trimmed_out u m).0)) t q q refl

  -- The trees of the automaton are those that reach a final state of what is left.
  pub trimmed_trees : (t : Tree) → Accepts A t → ReachesFinal (trimmed A) t
  unfolding trimmed
  trimmed_trees t a =
      let q = a.state in
      (q, keep_in _ a.final (among_in (reached_productive t q a.reaches)), trimmed_reaches t q a.reaches)

  pub trees_trimmed : (t : Tree) → ReachesFinal (trimmed A) t → Accepts A t
  unfolding trimmed
  trees_trimmed t (q, m, r) = record { state = q; final = (keep_out _ A.finals m).0; reaches = reaches_trimmed t q r }
