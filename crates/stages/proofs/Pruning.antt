-- Step 4: above each rule stands one that is not dominated (`Dominance`), so the rules that stay match all the others, and a stage carries
-- over to its pruned stage: a state goes into each state above it, and back to itself. For a relation that orders the stage; for `Agreement`.
use Prim.Native.Nat.{ℕ}
use mathlib.Core.Path.{◌≡◌, refl, sym, ap, ap₂, ◌∙◌}
use mathlib.Core.Logic.{◌⊎◌, inl, inr}
use mathlib.Core.List.{List, ◌∷◌, Memᴰ}
use mathlib.Core.Bool.{true, false, not, true≢false}
use lib.Dec.{eqb}
use borrow.Author.Tests.{eq-eqb, eqb-true, not-true}
use Rattle.lists.proofs.Keeping.{keep_out}
use Rattle.lists.proofs.Dominance.{kept_above}
use Rattle.lists.proofs.Booleans.{and_true_in, and_true_out, and_false_right, never_true, not_true_in, not_true_out}
use Rattle.lists.proofs.Search.{any_in, any_out}
use Rattle.automaton.specs.Automaton.{Rule}
use Rattle.refinement.specs.Simulation.{Each, none, also, Matched, Simulates, Relation, paired, matched_by}
use Rattle.refinement.proofs.Refinement.{Within, paired_each, each_paired}
use Rattle.refinement.proofs.Simulations.{each_map, each_compose, each_refl}
use Rattle.stages.specs.Steps.{Stage, same_states, dominated_by, dominated, pruned}
use Rattle.stages.specs.Inner.{Sound}
use Rattle.stages.proofs.Carrying.{Carries, Orders, Inside, each_inside, part_simulates}
use Rattle.stages.proofs.SameRules.{same_states_out, same_states_refl}

-- Rule u is dominated by rule v.
pub record DominatedBy (R : Relation) (u v : Rule) : Type 0 where
  pub target : u.target ≡ v.target
  pub symbol : u.symbol ≡ v.symbol
  pub children : Each (Within R) u.children v.children
  pub differ : u.children ≡ v.children → ⊥

pub dominated_out : (R : Relation) (u v : Rule) → dominated_by R u v ≡ true → DominatedBy R u v
unfolding dominated_by matched_by
dominated_out R u v h =
    let a = and_true_out (eqb u.target v.target) _ h in
    let b = and_true_out (matched_by R u v) (not (same_states u.children v.children)) a.1 in
    let c = and_true_out (eqb u.symbol v.symbol) (paired R u.children v.children) b.0 in
    record {
      target = eqb-true u.target v.target a.0;
      symbol = eqb-true u.symbol v.symbol c.0;
      children = paired_each R u.children v.children c.1;
      differ = λ e. not_true_out {t = same_states u.children v.children} b.1 (rw e (same_states_refl v.children));
    }

pub dominated_in : (R : Relation) (u v : Rule) → DominatedBy R u v → dominated_by R u v ≡ true
unfolding dominated_by matched_by
dominated_in R u v d =
    and_true_in (eq-eqb u.target v.target d.target)
    (and_true_in (and_true_in (eq-eqb u.symbol v.symbol d.symbol) (each_paired R d.children))
    (not_true_in (λ e. d.differ (same_states_out u.children v.children e))))

dominated_self : (R : Relation) (u : Rule) → dominated_by R u u ≡ false
unfolding dominated_by
dominated_self R u =
    and_false_right (eqb u.target u.target) (and_false_right (matched_by R u u) (ap not (same_states_refl u.children)))

-- A rule that others do not dominate is not dominated by some of these.
pub part_undominated : (R : Relation) (rules others : List Rule) → ((v : Rule) → Memᴰ v rules → Memᴰ v others)
    → (u : Rule) → dominated R others u ≡ false → dominated R rules u ≡ false
unfolding dominated
part_undominated R rules others part u h = never_true (λ e.
    let f = any_out (dominated_by R u) rules e in
    true≢false (sym (any_in (dominated_by R u) (part f.element f.member) f.passes) ∙ h))

module _ (R : Relation) (Q : Stage) where
  pruned_rule : (u : Rule) → Memᴰ u (pruned R Q).rules → Memᴰ u Q.rules × (dominated R Q.rules u ≡ false)
  unfolding pruned
  pruned_rule u m = let k = keep_out _ Q.rules m in (k.0, not-true (dominated R Q.rules u) k.1)

  pub pruned_undominated : (u : Rule) → Memᴰ u (pruned R Q).rules → dominated R (pruned R Q).rules u ≡ false
  pruned_undominated u m = part_undominated R _ Q.rules (λ v n. (pruned_rule v n).0) u (pruned_rule u m).1

  pub pruned_sound : Sound Q → Sound (pruned R Q)
  unfolding pruned
  pruned_sound sound =
      record {
        rising = sound.rising;
        low = sound.low;
        finals_rising = sound.finals_rising;
        finals = sound.finals;
        targets = λ u m. sound.targets u (pruned_rule u m).0;
        children = λ u m. sound.children u (pruned_rule u m).0;
      }

module _ (R : Relation) (Q : Stage) (sound : Sound Q) (ordered : Orders R Q) where
  each_transitive : {qs rs ss : List ℕ} → Each (Within R) qs rs → Each (Within R) rs ss → Each (Within R) qs ss
  each_transitive a b = each_map (each_compose a b) (λ q s (r, d, e). ordered.transitive q r s d e)

  each_antisymmetric : {qs rs : List ℕ} → Each (Inside Q (Within R)) qs rs → Each (Within R) rs qs → qs ≡ rs
  each_antisymmetric none none = refl
  each_antisymmetric (also {q = q} {r = r} (m, n, d) ds) (also e es) =
      ap₂ ◌∷◌ (ordered.antisymmetric q r m n d e) (each_antisymmetric ds es)

  dominated_transitive : (u v w : Rule) → Memᴰ u Q.rules → Memᴰ v Q.rules → Memᴰ w Q.rules
      → dominated_by R u v ≡ true → dominated_by R v w ≡ true → dominated_by R u w ≡ true
  dominated_transitive u v w m n o h k =
      let a = dominated_out R u v h in
      let b = dominated_out R v w k in
      dominated_in R u w (record {
        target = a.target ∙ b.target;
        symbol = a.symbol ∙ b.symbol;
        children = each_transitive a.children b.children;
        differ = λ e.
            a.differ (each_antisymmetric (each_inside a.children (sound.children u m) (sound.children v n))
            (rw (← e) at b.children));
      })

  undominated_above : (u : Rule) → Memᴰ u Q.rules → Matched (Within R) (pruned R Q).rules u.target u
  unfolding pruned dominated
  undominated_above u m =
      let k = kept_above (dominated_by R) Q.rules (dominated_self R) dominated_transitive u m in
      go k.element k.member k.above
    where
      go : (v : Rule) → Memᴰ v (pruned R Q).rules → (u ≡ v) ⊎ (dominated_by R u v ≡ true)
          → Matched (Within R) (pruned R Q).rules u.target u
      go v n (inl e) =
          record {
            rule = v;
            is_rule = n;
            target = rw e;
            symbol = rw e;
            children = rw (← e) (each_refl (λ q c. ordered.reflexive q (sound.children u m q c)));
          }
      go v n (inr h) =
          let d = dominated_out R u v h in
          record { rule = v; is_rule = n; target = sym d.target; symbol = d.symbol; children = d.children }

  into_pruned : Simulates Q.rules (pruned R Q).rules (Inside Q (Within R))
  unfolding Simulates
  into_pruned q r d u m e =
      let v = ordered.simulates q r d u m e in
      let w = undominated_above v.rule v.is_rule in
      record {
        rule = w.rule;
        is_rule = w.is_rule;
        target = w.target ∙ v.target;
        symbol = v.symbol ∙ w.symbol;
        children =
            each_inside (each_transitive (each_map v.children (λ p s h. h.2)) w.children)
            (sound.children u m) (sound.children w.rule (pruned_rule R Q w.rule w.is_rule).0);
      }

  pub pruned_carries : Carries (λ (q : ℕ). q) Q (pruned R Q)
  unfolding pruned
  pruned_carries =
      let inside : (q : ℕ) → Memᴰ q Q.states → Inside Q (Within R) q q = λ q m. (m, m, ordered.reflexive q m) in
      record {
        into = Inside Q (Within R);
        back = λ q r. q ≡ r;
        into_simulates = into_pruned;
        back_simulates = part_simulates (pruned R Q).rules Q.rules (λ u m. (pruned_rule R Q u m).0);
        final_into = λ q m. (q, m, inside q (sound.finals q m));
        final_back = λ q m. (q, m, refl);
        origin_state = λ q m. m;
        origin_into = inside;
        origin_back = λ q m. refl;
        origin_injective = λ q r m n e. e;
      }
