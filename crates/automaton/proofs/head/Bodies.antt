-- The bodies of a table's rules, one after the other: which comes next, what was judged of each, how many there are, and the rules that they hold.
-- From what the judges have checked; for the iterator over the rules and the functions that judge and decode.
use Prim.Native.Nat.{ℕ, zero, suc, ◌+◌, ◌-◌, ◌*◌, ◌≤◌, ◌<◌}
use native.Mathlib.Omega.{arith}
use mathlib.Core.Path.{◌≡◌, refl, ap}
use mathlib.Core.List.{List, [], ◌∷◌}
use lib.ListN.{length, drop, get_or, length-drop}
use Rattle.lists.specs.Lists.{All, none, also}
use Rattle.lists.proofs.Elements.{all_map}
use Rattle.records.specs.Bytes.{number2, numbers}
use Rattle.records.specs.Record.{opened, body_of}
use Rattle.records.specs.Read.{Read, found, refused, ◌>>=◌, ◌>>◌}
use Rattle.records.proofs.Fields.{numbers_step}
use Rattle.records.proofs.Reading.{refused≢found, then_found}
use Rattle.automaton.specs.Automaton.{Rule}
use Rattle.automaton.specs.Table.{due, judge_record, rule_in, judge_rule, judge_rules}
use Rattle.automaton.specs.Inner.{passing, RuleBody, next_end, then_bodies, bodies, Judged}
use Rattle.automaton.proofs.Checked.{record_found, record_within, rule_checked}
use Rattle.automaton.proofs.table.Judging.{passing_map, rule_long}

-- The rules that some bodies hold, or the refusal among them.
unfoldable pub rules_in : List (Read (List ℕ)) → Read (List Rule)
rules_in [] = found []
rules_in (x ∷ xs) = x >>= (λ (body : List ℕ). rules_in xs >>= (λ (us : List Rule). found (rule_in body ∷ us)))

-- How many were not refused.
unfoldable pub founds : List (Read (List ℕ)) → ℕ
founds [] = 0
founds (found body ∷ xs) = suc (founds xs)
founds (refused cause ∷ xs) = founds xs

-- A rule that was judged.
pub rule_body : (n : ℕ) (ranks body : List ℕ) → n ≤ 256 → length ranks ≤ 256 → ((i : ℕ) → get_or ranks i 0 ≤ 8)
    → judge_rule n ranks body ≡ found tt → RuleBody body
rule_body n ranks body states symbols small h =
    let f = rule_checked n ranks body h in
    let rank = small (number2 body) in
    let first : numbers body ≡ number2 body ∷ numbers (drop 2 body) = numbers_step body 0 (omega (arith, f.start)) in
    record {
      some = f.start;
      few = omega (arith, f.size, rank);
      even = omega (arith, f.size);
      low = rw first (also {x = number2 body} (omega (arith, f.symbol)) (all_map (λ q l. omega arith) f.states));
    }

-- Behind the last rule each record is refused.
end_read : (x : Read ℕ) (b : List ℕ) → x >> refused 7 ≡ rules_in (then_bodies (x >> refused 7) b (λ (end : ℕ). []))
unfolding ◌>>◌ ◌>>=◌ then_bodies rules_in
end_read (found end) b = refl
end_read (refused cause) b = refl

step_read : (x : Read ℕ) (b : List ℕ) (more : ℕ → Read (List Rule)) (others : ℕ → List (Read (List ℕ)))
    → ((end : ℕ) → more end ≡ rules_in (others end))
    → x >>= (λ (end : ℕ). more end >>= (λ (us : List Rule). found (rule_in (body_of b) ∷ us))) ≡ rules_in (then_bodies x b others)
unfolding ◌>>=◌ then_bodies rules_in
step_read (found end) b more others same = ap (λ (y : Read (List Rule)). y >>= (λ (us : List Rule). found (rule_in (body_of b) ∷ us))) (same end)
step_read (refused cause) b more others same = refl

then_judged : (x : Read ℕ) (b : List ℕ) (others : ℕ → List (Read (List ℕ)))
    → ((end : ℕ) → x ≡ found end → RuleBody (body_of b) × All Judged (others end)) → All Judged (then_bodies x b others)
unfolding then_bodies
then_judged (found end) b others h = let (body, more) = h end refl in also {x = found (body_of b)} body more
then_judged (refused cause) b others h = also {x = refused cause} tt none

then_few : (x : Read ℕ) (b : List ℕ) (others : ℕ → List (Read (List ℕ))) (k : ℕ)
    → ((end : ℕ) → x ≡ found end → (founds (others end) < k) × (10 * founds (others end) + 10 ≤ length b))
    → (founds (then_bodies x b others) ≤ k) × (10 * founds (then_bodies x b others) ≤ length b)
unfolding then_bodies founds
then_few (found end) b others k h = let (few, short) = h end refl in (omega arith, omega arith)
then_few (refused cause) b others k h = (omega arith, omega arith)

then_short : (x : Read ℕ) (b : List ℕ) (others : ℕ → List (Read (List ℕ))) (k : ℕ) → ((end : ℕ) → length (others end) ≤ k)
    → length (then_bodies x b others) ≤ k + 1
unfolding then_bodies
then_short (found end) b others k h = omega (arith, h end)
then_short (refused cause) b others k h = omega arith

module _ (n : ℕ) (ranks : List ℕ) where
  -- What comes next.
  pub next_rule : (k : ℕ) (b : List ℕ) → 0 < k → next_end n ranks k b ≡ judge_record 4 7 (judge_rule n ranks) b
  unfolding next_end
  next_rule zero b some = absurd (omega arith)
  next_rule (suc k) b some = refl

  pub next_behind : (k : ℕ) (b : List ℕ) → k ≤ 0 → next_end n ranks k b ≡ due 4 7 (opened b) >> refused 7
  unfolding next_end
  next_behind zero b last = refl
  next_behind (suc k) b last = absurd (omega arith)

  pub none_left : (k : ℕ) (b : List ℕ) → k ≡ 0 → length b ≡ 0 → bodies n ranks k b ≡ []
  unfolding bodies
  none_left zero [] last empty = refl
  none_left zero (x ∷ b) last empty = absurd (omega arith)
  none_left (suc k) b last empty = absurd (omega arith)

  pub next_within : (k : ℕ) (b : List ℕ) {end : ℕ} → next_end n ranks k b ≡ found end → (0 < k) × (end ≤ length b)
  unfolding next_end
  next_within zero b h = absurd (refused≢found (then_found _ _ h).2)
  next_within (suc k) b h = (omega arith, record_within 4 7 _ b h)

  pub next_found : (k : ℕ) (b : List ℕ) {end : ℕ} → next_end n ranks k b ≡ found end
      → bodies n ranks k b ≡ found (body_of b) ∷ bodies n ranks (k - 1) (drop end b)
  unfolding bodies then_bodies
  next_found zero b h = absurd (omega (arith, (next_within zero b h).0))
  next_found (suc k) b h = let less : suc k - 1 ≡ k = omega arith in rw (less, h)

  pub next_refused : (k : ℕ) (b : List ℕ) {cause : ℕ} → (k ≡ 0 → length b ≡ 0 → ⊥) → next_end n ranks k b ≡ refused cause
      → bodies n ranks k b ≡ refused cause ∷ []
  unfolding bodies then_bodies
  next_refused zero [] some h = absurd (some refl refl)
  next_refused zero (x ∷ b) some h = rw h
  next_refused (suc k) b some h = rw h

  -- All of them.
  pub rules_read : (k : ℕ) (b : List ℕ) → judge_rules n ranks k b ≡ rules_in (bodies n ranks k b)
  unfolding judge_rules bodies next_end rules_in
  rules_read zero [] = refl
  rules_read zero (x ∷ b) = end_read (due 4 7 (opened (x ∷ b))) (x ∷ b)
  rules_read (suc k) b = step_read (judge_record 4 7 (judge_rule n ranks) b) b _ _ (λ end. rules_read k (drop end b))

  pub bodies_few : (k : ℕ) (b : List ℕ) → (founds (bodies n ranks k b) ≤ k) × (10 * founds (bodies n ranks k b) ≤ length b)
  unfolding bodies next_end founds
  bodies_few zero [] = (omega arith, omega arith)
  bodies_few zero (x ∷ b) = then_few _ (x ∷ b) _ zero (λ end h. absurd (refused≢found (then_found _ _ h).2))
  bodies_few (suc k) b =
      then_few _ b _ (suc k)
      (λ end h.
      let (few, short) = bodies_few k (drop end b) in
      (omega arith, omega (arith, rule_long n ranks b h, record_within 4 7 _ b h, length-drop end b)))

  pub bodies_short : (k : ℕ) (b : List ℕ) → length (bodies n ranks k b) ≤ k + 1
  unfolding bodies
  bodies_short zero [] = omega arith
  bodies_short zero (x ∷ b) = then_short _ (x ∷ b) _ zero (λ end. omega arith)
  bodies_short (suc k) b = then_short _ b _ (suc k) (λ end. omega (arith, bodies_short k (drop end b)))

  pub bodies_judged : n ≤ 256 → length ranks ≤ 256 → ((i : ℕ) → get_or ranks i 0 ≤ 8) → (k : ℕ) (b : List ℕ) → All Judged (bodies n ranks k b)
  unfolding bodies next_end
  bodies_judged states symbols small zero [] = none
  bodies_judged states symbols small zero (x ∷ b) = then_judged _ (x ∷ b) _ (λ end h. absurd (refused≢found (then_found _ _ h).2))
  bodies_judged states symbols small (suc k) b =
      then_judged _ b _
      (λ end h.
      (rule_body n ranks (body_of b) states symbols small (record_found 4 7 _ b h).passes, bodies_judged states symbols small k (drop end b)))

-- What is read of the bodies that are left, after one that passed and at one that was refused.
pub one_read : (body : List ℕ) (xs : List (Read (List ℕ))) → passing (rules_in (found body ∷ xs)) ≡ passing (rules_in xs)
unfolding rules_in ◌>>=◌
one_read body xs = passing_map _ (rules_in xs)

pub one_refused : (cause : ℕ) (xs : List (Read (List ℕ))) → rules_in (refused cause ∷ xs) ≡ refused cause
unfolding rules_in ◌>>=◌
one_refused cause xs = refl
