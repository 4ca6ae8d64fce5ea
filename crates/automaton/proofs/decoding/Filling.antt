-- Decoding fills a lent array: rows put one after the other, and the automaton that a table holds once its rules are read. From what the judges have
-- checked; for the proofs of the functions that decode.
use Prim.Native.Nat.{ℕ, ◌+◌, ◌≤◌, ◌<◌}
use native.Mathlib.Omega.{arith}
use mathlib.Core.Path.{◌≡◌, refl, sym, ap, ◌∙◌}
use mathlib.Core.List.{List, [], ◌∷◌, ◌++◌, append_assoc, append-nil}
use lib.ListN.{length, take, set, length-map, length-set, length-take}
use Rattle.std.proofs.lemmas.List.{take_more_set, map-append}
use Rattle.lists.specs.Lists.{All}
use Rattle.lists.proofs.Elements.{all_first, all_rest}
use Rattle.sets.specs.Inner.{set_of, states_in}
use Rattle.sets.proofs.StateSets.{states_of_set}
use Rattle.records.specs.Bytes.{numbers}
use Rattle.records.specs.Read.{Read, found, refused, ◌>>=◌}
use Rattle.automaton.specs.Automaton.{Rule, Automaton}
use Rattle.automaton.specs.declared.row.Row.{Row}
use Rattle.automaton.specs.Row.{rule_of, rules_of}
use Rattle.automaton.specs.Table.{rule_in, judge_rules, judge}
use Rattle.automaton.specs.Inner.{Parts, judge_head, RuleBody, Judged, bodies, RowsRoom}
use Rattle.automaton.proofs.head.Bodies.{rules_in, founds, bodies_few}
use Rattle.automaton.proofs.table.Judging.{head_found, rest_found}

-- The rules of one row more.
rules_more : (rows : List Row) (i : ℕ) (row : Row) → i < length rows
    → rules_of (take (i + 1) (set rows i row)) ≡ rules_of (take i rows) ++ (rule_of row ∷ [])
rules_more rows i row h = rw (take_more_set rows i row h, map-append)

-- The first i rules are in the array, and those of the bodies that are left, each judged, are still to be read; there is room for them.
pub record Reached (all : Read (List Rule)) (rows : List Row) (left : List (Read (List ℕ))) (i : ℕ) : Type 0 where
  pub room : i + founds left ≤ length rows
  pub judged : All Judged left
  pub read : all ≡ rules_in left >>= (λ (us : List Rule). found (rules_of (take i rows) ++ us))

bind_same : {A : Type 0} (x : Read A) → x >>= (λ (a : A). found a) ≡ x
unfolding ◌>>=◌
bind_same (found a) = refl
bind_same (refused cause) = refl

bind_append : {A : Type 0} (x : Read (List A)) (vs : List A) (u : A)
    → x >>= (λ (us : List A). found (u ∷ us)) >>= (λ (us : List A). found (vs ++ us))
    ≡ x >>= (λ (us : List A). found ((vs ++ (u ∷ [])) ++ us))
unfolding ◌>>=◌
bind_append (found us) vs u = ap found (sym (append_assoc vs (u ∷ []) us))
bind_append (refused cause) vs u = refl

module _ (all : Read (List Rule)) (rows : List Row) where
  pub none_reached : (left : List (Read (List ℕ))) → all ≡ rules_in left → All Judged left → founds left ≤ length rows → Reached all rows left 0
  none_reached left same judged few = record { room = omega arith; judged = judged; read = same ∙ sym (bind_same (rules_in left)) }

  module _ (left : List (Read (List ℕ))) (i : ℕ) where
    pub reached_refused : {cause : ℕ} → Reached all rows (refused cause ∷ left) i → all ≡ refused cause
    unfolding rules_in ◌>>=◌
    reached_refused r = r.read

    module _ (body : List ℕ) (r : Reached all rows (found body ∷ left) i) where
      pub next_room : i < length rows
      unfolding founds
      next_room = omega (arith, r.room)

      pub next_body : RuleBody body
      next_body = all_first r.judged

      pub next_reached : (row : Row) → rule_of row ≡ rule_in body → Reached all (set rows i row) left (i + 1)
      unfolding founds rules_in ◌>>=◌
      next_reached row same = record {
        room = rw length-set (omega (arith, r.room));
        judged = all_rest r.judged;
        read = r.read ∙ rw (rules_more rows i row next_room, same) (bind_append (rules_in left) (rules_of (take i rows)) (rule_in body));
      }

  -- Where k rules were read they are the rules of the first k rows.
  pub all_reached : (i k : ℕ) → Reached all rows [] i → ((us : List Rule) → all ≡ found us → length us ≡ k)
      → (k ≤ length rows) × (all ≡ found (rules_of (take k rows)))
  unfolding founds rules_in ◌>>=◌
  all_reached i k r count =
      let done : all ≡ found (rules_of (take i rows)) = r.read ∙ ap found (append-nil (rules_of (take i rows))) in
      let as_many : i ≡ k = omega (arith, r.room, rw (length-map, length-take) at (count _ done)) in
      (omega (arith, r.room), rw (← as_many) done)

-- Room for the rules of a table is room for the bodies of a part of it.
pub room_behind : (t rest : List ℕ) (rows : List Row) (n k : ℕ) (ranks : List ℕ) → length rest ≤ length t → k ≤ 1024 → RowsRoom t rows
    → founds (bodies n ranks k rest) ≤ length rows
room_behind t rest rows n k ranks behind few room =
    let (most, short) = bodies_few n ranks k rest in room _ (omega arith) (omega arith)

-- The automaton of a table whose rules are read.
module _ (b : List ℕ) (p : Parts) (us : List Rule) (h : judge_head b ≡ found p)
    (rules : judge_rules p.size.states p.ranks p.size.rules p.rules ≡ found us) where
  abbrev pub decoded : Automaton
  decoded = record { states = p.size.states; ranks = p.ranks; finals = states_in p.size.states (set_of (numbers p.finals)); rules = us }

  pub judged : judge b ≡ found decoded
  unfolding states_in
  judged =
      let f = head_found b p h in
      rw (states_of_set (numbers p.finals) p.size.states f.states f.finals.states f.finals.rises) (rest_found b p h rules)
