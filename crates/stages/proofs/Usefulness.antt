-- Runs put together: a run by a rule, a run in the place of a node of another; and a state under the target of a rule takes part in an
-- accepted tree where the target does. For `Trimming` and `Agreement`.
use Prim.Native.Nat.{ℕ, suc}
use mathlib.Core.Path.{◌≡◌, refl, sym, ap, ap₂, ◌∙◌}
use mathlib.Core.Logic.{inl, inr}
use mathlib.Core.List.{List, [], ◌∷◌, Memᴰ}
use lib.ListN.{length}
use Rattle.lists.proofs.Elements.{all_member}
use Rattle.automaton.specs.Automaton.{Rule, Automaton, WellFormed, WellFormedRule}
use Rattle.trees.specs.Tree.{Tree, arity_of, Over, AllOver}
use Rattle.trees.specs.Run.{Run, Runs, at, none, also, root, roots, tree_of, trees_of, IsRun, AreRuns, Reaches, Occurs, OccursIn, Useful}

-- The tree of a run is one over the symbols of a well-formed automaton.
arity_roots : (rs : Runs) → arity_of (trees_of rs) ≡ length (roots rs)
unfolding arity_of trees_of roots
arity_roots none = refl
arity_roots (also r rs) = ap suc (arity_roots rs)

module _ (A : Automaton) (w : WellFormed A) where
  mutual
    unfolding tree_of trees_of IsRun AreRuns Over AllOver

    pub run_over : (r : Run) → IsRun A.rules r → Over A.ranks (tree_of r)
    run_over (at q f rs) h =
        let u = h.0 in
        let wf : WellFormedRule A u.rule = all_member w.rules u.is_rule in (
          rw u.symbol at wf.symbol,
          arity_roots rs ∙ ap length (sym u.children) ∙ rw u.symbol at wf.arity,
          runs_over rs h.1,
        )

    runs_over : (rs : Runs) → AreRuns A.rules rs → AllOver A.ranks (trees_of rs)
    runs_over none h = tt
    runs_over (also r rs) h = (run_over r h.0, runs_over rs h.1)

-- A run σ in the place of a node of another that has σ's root: the root stays, and what occurs in σ occurs.
module _ (rules : List Rule) (σ : Run) (is_run : IsRun rules σ) where
  mutual
    unfolding IsRun AreRuns Occurs OccursIn root roots

    graft : (ρ : Run) → IsRun rules ρ → Occurs (root σ) ρ
        → (r : Run) × IsRun rules r × (root r ≡ root ρ) × ((p : ℕ) → Occurs p σ → Occurs p r)
    graft (at q f rs) h (inl e) = (σ, is_run, e, λ p o. o)
    graft (at q f rs) h (inr o) =
        let (ss, are_runs, ends, occurs) = graft_in rs h.1 o in
        (at q f ss, (rw ends h.0, are_runs), refl, λ p i. inr (occurs p i))

    graft_in : (ρs : Runs) → AreRuns rules ρs → OccursIn (root σ) ρs
        → (rs : Runs) × AreRuns rules rs × (roots rs ≡ roots ρs) × ((p : ℕ) → Occurs p σ → OccursIn p rs)
    graft_in none h o = absurd o
    graft_in (also r rs) h (inl o) =
        let (s, runs, ends, occurs) = graft r h.0 o in
        (also s rs, (runs, h.1), ap (λ (q : ℕ). q ∷ roots rs) ends, λ p i. inl (occurs p i))
    graft_in (also r rs) h (inr o) =
        let (ss, are_runs, ends, occurs) = graft_in rs h.1 o in
        (also r ss, (h.0, are_runs), ap (λ (qs : List ℕ). root r ∷ qs) ends, λ p i. inr (occurs p i))

pub occurs_root : (r : Run) (p : ℕ) → p ≡ root r → Occurs p r
unfolding Occurs root
occurs_root (at q f rs) p e = inl e

pub occurs_roots : (rs : Runs) (p : ℕ) → Memᴰ p (roots rs) → OccursIn p rs
unfolding OccursIn roots
occurs_roots none p x' = elim x' [ ]
occurs_roots (also r rs) p (Memᴰ.head e) = inl (occurs_root r p e)
occurs_roots (also r rs) p (Memᴰ.tail m) = inr (occurs_roots rs p m)

-- A run by a rule whose children are reached.
module _ (rules : List Rule) where
  runs_to : (qs : List ℕ) → ((q : ℕ) → Memᴰ q qs → (t : Tree) × Reaches rules t q)
      → (rs : Runs) × AreRuns rules rs × (roots rs ≡ qs)
  unfolding AreRuns roots
  runs_to [] h = (none, tt, refl)
  runs_to (q ∷ qs) h =
      let (t, r) = h q (Memᴰ.head refl) in
      let (rs, are_runs, ends) = runs_to qs (λ p m. h p (Memᴰ.tail m)) in
      (also r.run rs, (r.is_run, are_runs), ap₂ ◌∷◌ r.ends ends)

  pub rule_run : (u : Rule) → Memᴰ u rules → ((q : ℕ) → Memᴰ q u.children → (t : Tree) × Reaches rules t q)
      → (r : Run) × IsRun rules r × (root r ≡ u.target) × ((q : ℕ) → Memᴰ q u.children → Occurs q r)
  unfolding IsRun Occurs root
  rule_run u m reached =
      let (rs, are_runs, ends) = runs_to u.children reached in (
        at u.target u.symbol rs,
        (record { rule = u; is_rule = m; symbol = refl; target = refl; children = sym ends }, are_runs),
        refl,
        λ q c. inr (occurs_roots rs q (rw ends c)),
      )

module _ (A : Automaton) (w : WellFormed A) where
  -- A final state that is reached takes part.
  pub useful_final : (t : Tree) (q : ℕ) → Memᴰ q A.finals → Reaches A.rules t q → Useful A q
  useful_final t q m r =
      record {
        run = r.run;
        over = run_over A w r.run r.is_run;
        is_run = r.is_run;
        final = rw r.ends m;
        occurs = occurs_root r.run q (sym r.ends);
      }

  -- A child of a rule whose target takes part does so too, if all its children are reached.
  pub useful_child : (u : Rule) → Memᴰ u A.rules → Useful A u.target
      → ((q : ℕ) → Memᴰ q u.children → (t : Tree) × Reaches A.rules t q)
      → (q : ℕ) → Memᴰ q u.children → Useful A q
  useful_child u m target reached q c =
      let (σ, here, top, children) = rule_run A.rules u m reached in
      let (r, is_run, ends, occurs) = graft A.rules σ here target.run target.is_run (rw top target.occurs) in
      record {
        run = r;
        over = run_over A w r is_run;
        is_run = is_run;
        final = rw ends target.final;
        occurs = occurs q (children q c);
      }
