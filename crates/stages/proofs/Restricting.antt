-- Step 5: the kept states are the least set that has the final states and the children of each rule whose target it has; so a stage carries
-- over to its restricted stage, where a kept state goes into itself and back. From the laws of closures; for `Agreement`, `Fixpoint`, and the
-- code that finds the kept states.
use Prim.Native.Nat.{ℕ}
use mathlib.Core.Path.{◌≡◌, refl, ◌∙◌}
use mathlib.Core.Logic.{◌⊎◌, inl, inr}
use mathlib.Core.List.{List, Memᴰ}
use mathlib.Core.Bool.{Bool, true, ◌&&◌}
use Rattle.lists.specs.Lists.{any, among}
use Rattle.lists.proofs.Keeping.{keep_in, keep_out}
use Rattle.lists.proofs.Booleans.{and_true_in, and_true_out, or_true_out, or_true_left, or_true_right}
use Rattle.lists.proofs.Search.{any_in, any_out, among_in, among_out}
use Rattle.lists.proofs.Elements.{all_member, member_all}
use Rattle.automaton.specs.Automaton.{Rule}
use Rattle.refinement.specs.Simulation.{Simulates}
use Rattle.refinement.proofs.Simulations.{each_refl}
use Rattle.stages.specs.Steps.{Stage, needed, kept, restricted}
use Rattle.stages.specs.Inner.{Sound}
use Rattle.stages.proofs.Carrying.{Carries, Connected, part_simulates}
use Rattle.stages.proofs.Closure.{Monotone, closure_least, closure_states, closure_rising, closure_closed}

-- A rule whose target was found before and that has q among its children.
pub record Asked (S : Stage) (earlier : List ℕ) (q : ℕ) : Type 0 where
  pub rule : Rule
  pub is_rule : Memᴰ rule S.rules
  pub target : Memᴰ rule.target earlier
  pub child : Memᴰ q rule.children

module _ (S : Stage) where
  needed_final : (earlier : List ℕ) (q : ℕ) → Memᴰ q S.finals → needed S earlier q ≡ true
  unfolding needed
  needed_final earlier q m = or_true_left _ (among_in m)

  needed_child : (earlier : List ℕ) (q : ℕ) → Asked S earlier q → needed S earlier q ≡ true
  unfolding needed
  needed_child earlier q a =
      or_true_right (among S.finals q)
      (any_in (λ (u : Rule). among earlier u.target && among u.children q) a.is_rule
      (and_true_in (among_in a.target) (among_in a.child)))

  pub needed_out : (earlier : List ℕ) (q : ℕ) → needed S earlier q ≡ true → Memᴰ q S.finals ⊎ Asked S earlier q
  unfolding needed
  needed_out earlier q h = go (or_true_out (among S.finals q) (any asks S.rules) h)
    where
      asks : Rule → Bool
      asks u = among earlier u.target && among u.children q

      go : (among S.finals q ≡ true) ⊎ (any asks S.rules ≡ true) → Memᴰ q S.finals ⊎ Asked S earlier q
      go (inl e) = inl (among_out S.finals q e)
      go (inr e) =
          let u = any_out asks S.rules e in
          let a = and_true_out (among earlier u.element.target) (among u.element.children q) u.passes in
          inr (record {
            rule = u.element;
            is_rule = u.member;
            target = among_out earlier u.element.target a.0;
            child = among_out u.element.children q a.1;
          })

  pub needed_monotone : Monotone (needed S)
  unfolding Monotone
  needed_monotone xs ys more q h = go (needed_out xs q h)
    where
      go : Memᴰ q S.finals ⊎ Asked S xs q → needed S ys q ≡ true
      go (inl m) = needed_final ys q m
      go (inr a) =
          needed_child ys q
          (record { rule = a.rule; is_rule = a.is_rule; target = more a.rule.target a.target; child = a.child })

  pub restricted_rule : (u : Rule) → Memᴰ u (restricted S).rules → Memᴰ u S.rules × Memᴰ u.target (kept S)
  unfolding restricted
  restricted_rule u m =
      let k = keep_out (λ (v : Rule). among (kept S) v.target) S.rules m in
      (k.0, among_out (kept S) u.target k.1)

module _ (S : Stage) (sound : Sound S) where
  pub kept_states : (q : ℕ) → Memᴰ q (kept S) → Memᴰ q S.states
  unfolding kept
  kept_states = closure_states (needed S) S.states

  kept_closed : (q : ℕ) → Memᴰ q S.states → needed S (kept S) q ≡ true → Memᴰ q (kept S)
  unfolding kept
  kept_closed = closure_closed (needed S) S.states (needed_monotone S)

  pub finals_kept : (q : ℕ) → Memᴰ q S.finals → Memᴰ q (kept S)
  finals_kept q m = kept_closed q (sound.finals q m) (needed_final S (kept S) q m)

  pub children_kept : (u : Rule) → Memᴰ u S.rules → Memᴰ u.target (kept S)
      → (q : ℕ) → Memᴰ q u.children → Memᴰ q (kept S)
  children_kept u m t q n =
      kept_closed q (sound.children u m q n)
      (needed_child S (kept S) q (record { rule = u; is_rule = m; target = t; child = n }))

  pub kept_least : (P : ℕ → Type 0) → ((q : ℕ) → Memᴰ q S.finals → P q)
      → ((u : Rule) → Memᴰ u S.rules → Memᴰ u.target (kept S) → P u.target
      → (q : ℕ) → Memᴰ q u.children → P q)
      → (q : ℕ) → Memᴰ q (kept S) → P q
  unfolding kept
  kept_least P final child q m =
      (closure_least (needed S) S.states Kept (λ earlier h p n e. go earlier h p (needed_out S earlier p e)) q m).1
    where
      Kept : ℕ → Type 0
      Kept p = Memᴰ p (kept S) × P p

      go : (earlier : List ℕ) → ((p : ℕ) → Memᴰ p earlier → Kept p)
          → (p : ℕ) → Memᴰ p S.finals ⊎ Asked S earlier p → Kept p
      go earlier h p (inl f) = (finals_kept p f, final p f)
      go earlier h p (inr a) =
          let t = h a.rule.target a.target in
          (children_kept a.rule a.is_rule t.0 p a.child, child a.rule a.is_rule t.0 t.1 p a.child)

  pub restricted_sound : Sound (restricted S)
  unfolding restricted kept
  restricted_sound =
      record {
        rising = closure_rising (needed S) S.states sound.rising;
        low = member_all (kept S) (λ q m. all_member sound.low (kept_states q m));
        finals_rising = sound.finals_rising;
        finals = finals_kept;
        targets = λ u m. (restricted_rule S u m).1;
        children = λ u m. let k = restricted_rule S u m in children_kept u k.0 k.1;
      }

  rule_restricted : (u : Rule) → Memᴰ u S.rules → Memᴰ u.target (kept S) → Memᴰ u (restricted S).rules
  unfolding restricted
  rule_restricted u m t = keep_in (λ (v : Rule). among (kept S) v.target) m (among_in t)

  -- Each kept state is final or under a final one by rules that stay.
  pub restricted_connected : Connected (restricted S)
  unfolding Connected restricted
  restricted_connected P final child = kept_least P final (λ u m t. child u (rule_restricted u m t))

  into_restricted : Simulates S.rules (restricted S).rules (λ (q r : ℕ). (q ≡ r) × Memᴰ q (kept S))
  unfolding Simulates
  into_restricted q r d u m e =
      let t : Memᴰ u.target (kept S) = mathlib.Core.List.Memᴰ.cast e d.1 in
      record {
        rule = u;
        is_rule = rule_restricted u m t;
        target = e ∙ d.0;
        symbol = refl;
        children = each_refl (λ p n. (refl, children_kept u m t p n));
      }

  pub restricted_carries : Carries (λ (q : ℕ). q) S (restricted S)
  unfolding restricted
  restricted_carries =
      record {
        into = λ q r. (q ≡ r) × Memᴰ q (kept S);
        back = λ q r. q ≡ r;
        into_simulates = into_restricted;
        back_simulates = part_simulates (restricted S).rules S.rules (λ u m. (restricted_rule S u m).0);
        final_into = λ q m. (q, m, (refl, finals_kept q m));
        final_back = λ q m. (q, m, refl);
        origin_state = kept_states;
        origin_into = λ q m. (refl, m);
        origin_back = λ q m. refl;
        origin_injective = λ q r m n e. e;
      }
