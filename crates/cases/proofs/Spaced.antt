-- The text of values that are written one after the other.
use Rattle.std.proofs.Common.{◌≡◌, ℕ, ◌+◌, ◌<◌, List, [], ◌∷◌, ◌++◌, length, take, get_or, None, Some, IfSome, Option, refl, sym, ap, ◌∙◌, append_assoc, append-nil}
use Rattle.std.specs.Fmt.{◌++?◌}
use Rattle.std.specs.Io.KnownBytes.{Appends}
use Rattle.std.proofs.KnownBytes.{Appends-trans}
use Rattle.std.proofs.lemmas.List.{take_more}
use Rattle.cases.specs.Line.{spaced}

append_text_assoc : (a b c : Option (List ℕ)) → (a ++? b) ++? c ≡ a ++? (b ++? c)
append_text_assoc None b c = refl
append_text_assoc (Some a) None c = refl
append_text_assoc (Some a) (Some b) None = refl
append_text_assoc (Some a) (Some b) (Some c) = ap Some (append_assoc a b c)

append_text_nil : (a : Option (List ℕ)) → a ++? Some [] ≡ a
append_text_nil None = refl
append_text_nil (Some a) = ap Some (append-nil a)

spaced_push : {T : Type 0} (output : T → Option (List ℕ)) (xs : List T) (y : T) → spaced output (xs ++ y ∷ []) ≡ spaced output xs ++? (Some (32 ∷ []) ++? output y)
spaced_push output [] y = append_text_nil _ ∙ first (Some (32 ∷ []) ++? output y)
  where
    first : (a : Option (List ℕ)) → a ≡ Some [] ++? a
    first None = refl
    first (Some a) = refl
spaced_push output (x ∷ xs) y = ap (λ o. (Some (32 ∷ []) ++? output x) ++? o) (spaced_push output xs y) ∙ sym (append_text_assoc _ (spaced output xs) _)

-- two texts written one after the other
texts_joined : (a b c p q : Option (List ℕ)) → IfSome p (Appends a b) → IfSome q (Appends b c) → IfSome (p ++? q) (Appends a c)
texts_joined a b c None q first second = tt
texts_joined a b c (Some p) None first second = tt
texts_joined a b c (Some p) (Some q) first second = Appends-trans a b c p q first second

-- one more value
pub spaced_more : {T : Type 0} (output : T → Option (List ℕ)) (xs : List T) (i : ℕ) (y : T) (a b c : Option (List ℕ)) → i < length xs → y ≡ get_or xs i y
    → IfSome (spaced output (take i xs)) (Appends a b) → IfSome (Some (32 ∷ []) ++? output y) (Appends b c) → IfSome (spaced output (take (i + 1) xs)) (Appends a c)
spaced_more output xs i y a b c inside here before more =
    let grown : take (i + 1) xs ≡ take i xs ++ y ∷ [] = take_more xs i y inside ∙ ap (λ z. take i xs ++ z ∷ []) (sym here) in
    rw (grown, spaced_push output (take i xs) y) (texts_joined a b c _ _ before more)
