-- A set of states that grows pass by pass ends as the closure of the test `grows`: it always lies between what as many times of the test find
-- and the closure, and a pass that adds nothing, or 256 passes, leave no room between the two. For the proofs of the functions in src/growth.rt.
use Prim.Native.Nat.{ℕ, suc, ◌+◌, ◌≤◌, ◌<◌}
use native.Mathlib.Numerals.{add-one}
use native.Mathlib.Omega.{arith}
use mathlib.Core.Path.{◌≡◌, refl, sym, ap, ◌∙◌}
use mathlib.Core.Logic.{◌⊎◌, inl, inr}
use mathlib.Core.List.Memᴰ
use mathlib.Core.List.{List, [], ◌∷◌, ◌++◌, Memᴰ}
use mathlib.Core.Bool.{Bool, true, ◌||◌, or_comm}
use lib.Dec.{eqb}
use lib.ListN.{get_or}
use Rattle.lists.specs.Lists.{All, none, also, any, among}
use Rattle.lists.proofs.Booleans.{or_true_left, or_true_right, or_true_out, same_bool}
use Rattle.lists.proofs.Elements.{all_member, member_all, all_take}
use Rattle.lists.proofs.Keeping.{keep_out}
use Rattle.lists.proofs.Rising.{rising_length}
use Rattle.lists.proofs.Search.{any_in, any_out, among_in, among_out}
use Rattle.sets.specs.Set.{member, with_state}
use Rattle.sets.specs.Inner.{Has}
use Rattle.sets.proofs.StateSets.{member_with, same_test}
use Rattle.automaton.specs.Automaton.{Rule}
use Rattle.automaton.specs.Row.{rule_of}
use Rattle.automaton.specs.declared.row.Row.{Row}
use Rattle.stages.specs.Steps.{Stage, found_in, closure}
use Rattle.stages.specs.Inner.{Sound}
use Rattle.stages.proofs.Closure.{Monotone, closure_least, closure_closed, closure_found}
use Rattle.reduction.specs.Inner.{grows, Passes, Low, Adding, Pass}

-- One state more.
pub member_more : (set : List ℕ) (t q : ℕ) → q < 256 → member (with_state set t) q ≡ (member set q || eqb t q)
member_more set t q h =
    member_with set t q h ∙ or_comm (eqb q t) (member set q) ∙ ap (λ (x : Bool). member set q || x) (same_test q t t q sym sym)

-- The states that the rule of a row names are below 256.

numbers_low : (xs : List ℕ) → ((i : ℕ) → get_or xs i 0 < 256) → All (λ (q : ℕ). q < 256) xs
numbers_low [] h = none
numbers_low (x ∷ xs) h = also (h 0) (numbers_low xs (λ i. h (suc i)))

pub row_low : (row : Row) → Low (rule_of row)
row_low row = record { target = row.numbers.1; children = all_take row.rank row.children (numbers_low row.children row.states) }

module _ {adds : (ℕ → Bool) → Rule → ℕ → Bool} where
  -- Passes.

  pub pass_none : (set : List ℕ) → Pass adds [] set set
  pass_none set = record {
    more = λ q l m. m;
    added = λ u m. absurd (Memᴰ.not-nil m);
    least = λ test start closed. start;
  }

  module _ (laws : Adding adds) where
    pub pass_next : (us : List Rule) (u : Rule) → Low u → (before grown after : List ℕ) → Pass adds us before grown
        → Has after (λ (q : ℕ). member grown q || adds (member grown) u q) → Pass adds (us ++ (u ∷ [])) before after
    pass_next us u low before grown after p has =
        record {
          more = λ q l m. stays q l (p.more q l m);
          added = λ v m q l a. adds_either v q l a (Memᴰ.append_cases us m);
          least = λ test start closed q l m.
              let passes : Passes (member grown) test = p.least test start (λ v n. closed v (Memᴰ.append_left (u ∷ []) n)) in
              either test passes (closed u (Memᴰ.append_right us (Memᴰ.head refl))) q l
              (or_true_out (member grown q) _ (sym (has q l) ∙ m));
        }
      where
        stays : Passes (member grown) (member after)
        stays q l m = has q l ∙ or_true_left _ m

        adds_either : (v : Rule) (q : ℕ) → q < 256 → adds (member before) v q ≡ true → Memᴰ v us ⊎ Memᴰ v (u ∷ []) → member after q ≡ true
        adds_either v q l a (inl m) = stays q l (p.added v m q l a)
        adds_either v q l a (inr (Memᴰ.head e)) =
            has q l ∙ or_true_right (member grown q) (laws.more (member before) (member grown) p.more u low q (rw e at a))
        adds_either v q l a (inr (Memᴰ.tail m)) = absurd (Memᴰ.not-nil m)

        either : (test : ℕ → Bool) → Passes (member grown) test → Passes (adds test u) test → (q : ℕ) → q < 256
            → (member grown q ≡ true) ⊎ (adds (member grown) u q ≡ true) → test q ≡ true
        either test passes closed q l (inl m) = passes q l m
        either test passes closed q l (inr a) = closed q l (laws.more (member grown) test passes u low q a)

    -- Times of the closure.
    module _ (S : Stage) (sound : Sound S) where
      abbrev grown_states : List ℕ
      grown_states = closure (grows adds S) S.states

      state_low : (q : ℕ) → Memᴰ q S.states → q < 256
      state_low q = all_member sound.low

      rule_low : (u : Rule) → Memᴰ u S.rules → Low u
      rule_low u m = record {
        target = state_low _ (sound.targets u m);
        children = member_all _ (λ p n. state_low p (sound.children u m p n));
      }

      grows_monotone : Monotone (grows adds S)
      unfolding Monotone grows
      grows_monotone xs ys more q h = either (or_true_out (among S.finals q) _ h)
        where
          adding : List ℕ → Rule → Bool
          adding earlier u = adds (among earlier) u q

          either : (among S.finals q ≡ true) ⊎ (any (adding xs) S.rules ≡ true) → grows adds S ys q ≡ true
          either (inl f) = or_true_left _ f
          either (inr a) =
              let u = any_out (adding xs) S.rules a in
              or_true_right (among S.finals q) (any_in (adding ys) u.member
              (laws.more (among xs) (among ys) (λ p l m. among_in (more p (among_out xs p m))) u.element (rule_low _ u.member) q u.passes))

      pub record Between (times : ℕ) (set : List ℕ) : Type 0 where
        pub finals : (q : ℕ) → Memᴰ q S.finals → member set q ≡ true
        pub found : (q : ℕ) → Memᴰ q (found_in (grows adds S) S.states times) → member set q ≡ true
        pub closed : Passes (member set) (among grown_states)

      pub between_finals : (set : List ℕ) → Has set (among S.finals) → Between 0 set
      unfolding found_in grows
      between_finals set has = record {
        finals = λ q m. has q (state_low q (sound.finals q m)) ∙ among_in m;
        found = λ q m. absurd (Memᴰ.not-nil m);
        closed = λ q l m.
            let f = among_out S.finals q (sym (has q l) ∙ m) in
            among_in (closure_closed (grows adds S) S.states grows_monotone q (sound.finals q f) (or_true_left _ (among_in f)));
      }

      pub between_ended : (times : ℕ) (set : List ℕ) → 256 ≤ times → Between times set → Has set (among grown_states)
      between_ended times set h b q l =
          same_bool (b.closed q l)
          (λ m. b.found q (closure_found (grows adds S) S.states grows_monotone times
          (omega (arith, rising_length sound.rising sound.low)) q (among_out grown_states q m)))

      -- A pass from one set to the next.
      module _ (times : ℕ) (set : List ℕ) (b : Between times set) where
        pass_finds : (grown : List ℕ) → Pass adds S.rules set grown
            → (earlier : List ℕ) → ((p : ℕ) → Memᴰ p earlier → member set p ≡ true)
            → (q : ℕ) → Memᴰ q S.states → grows adds S earlier q ≡ true → member grown q ≡ true
        unfolding grows
        pass_finds grown pass earlier h q m g = either (or_true_out (among S.finals q) _ g)
          where
            adding : Rule → Bool
            adding u = adds (among earlier) u q

            either : (among S.finals q ≡ true) ⊎ (any adding S.rules ≡ true) → member grown q ≡ true
            either (inl f) = pass.more q (state_low q m) (b.finals q (among_out S.finals q f))
            either (inr a) =
                let u = any_out adding S.rules a in
                pass.added u.element u.member q (state_low q m)
                (laws.more (among earlier) (member set) (λ p l n. h p (among_out earlier p n)) u.element (rule_low _ u.member) q u.passes)

        -- What a rule adds are states.
        added_state : (u : Rule) → Memᴰ u S.rules → (q : ℕ) → (q ≡ u.target) ⊎ Memᴰ q u.children → Memᴰ q S.states
        added_state u m q (inl e) = rw e (sound.targets u m)
        added_state u m q (inr n) = sound.children u m q n

        pub between_next : (grown : List ℕ) → Pass adds S.rules set grown → Between (times + 1) grown
        unfolding found_in grows
        between_next grown pass =
            rw add-one (record {
              finals = λ q m. pass.more q (state_low q (sound.finals q m)) (b.finals q m);
              found = λ q m. let (n, g) = keep_out (grows adds S (found_in (grows adds S) S.states times)) S.states m in
                  pass_finds grown pass (found_in (grows adds S) S.states times) b.found q n g;
              closed = pass.least (among grown_states) b.closed (λ u m q low a.
                  among_in (closure_closed (grows adds S) S.states grows_monotone q
                  (added_state u m q (laws.named (among grown_states) u q a))
                  (or_true_right (among S.finals q) (any_in (λ (u : Rule). adds (among grown_states) u q) m a))));
            })

        pub between_settled : Pass adds S.rules set set → Has set (among grown_states)
        between_settled pass q l =
            same_bool (b.closed q l)
            (λ m. closure_least (grows adds S) S.states (λ (p : ℕ). member set p ≡ true) (pass_finds set pass) q (among_out grown_states q m))
