-- What holds of reading, stated over the definitions of specs/ alone. Each theorem is proved in the file that its body names.
use Prim.Native.Nat.{ℕ, ◌≤◌, ◌<◌}
use mathlib.Core.Path.{◌≡◌, sym, subst}
use mathlib.Core.List.{List}
use mathlib.Core.Bool.{true, false, not, ◌&&◌, ◌||◌}
use lib.ListN.{length, get_or}
use lib.Dec.{eqb}
use Rattle.sets.specs.Set.{member, empty_set, with_state, without_state, union_of, meet_of, same_set}
use Rattle.sets.proofs.StateSets as sets
use Rattle.records.specs.Read.{found, refused, ◌>>=◌}
use Rattle.records.specs.Output.{written, written_over}
use Rattle.records.proofs.Buffers as leaving
use Rattle.automaton.specs.Automaton.{Automaton, WellFormed}
use Rattle.automaton.specs.Table.{judge, encode}
use Rattle.automaton.specs.Inner.{judge_head, judge_behind}
use Rattle.records.specs.Answers.{reading_of}
use Rattle.std.specs.Prelude.{Result, Ok}
use Rattle.records.specs.declared.refusal.Refusal.{Refusal}
use Rattle.records.proofs.Causes.{cause_of}
use Rattle.automaton.proofs.TableCauses as causes
use Rattle.automaton.proofs.Encoding as encoding
use Rattle.automaton.proofs.table.Judging as judging

-- A table that is judged without a refusal is a well-formed automaton.
pub judged_well_formed : (b : List ℕ) (A : Automaton) → judge b ≡ found A → WellFormed A
judged_well_formed = encoding.judge_well_formed

-- Judging is judging the first three records, and then the rules behind them.
pub judge_in_parts : (b : List ℕ) → judge b ≡ judge_head b >>= judge_behind
judge_in_parts = judging.judge_in_parts

-- One that is refused has one of causes 1 to 7.
pub judge_causes : (b : List ℕ) (cause : ℕ) → judge b ≡ refused cause → (1 ≤ cause) × (cause ≤ 7)
judge_causes b cause = cause_of (causes.table_causes b)

-- Encoding what was judged gives the same bytes back.
pub encode_judged : (b : List ℕ) (A : Automaton) → ((i : ℕ) → get_or b i 0 < 256) → judge b ≡ found A → encode A ≡ b
encode_judged = encoding.encode_judge

-- Judging what is encoded gives the automaton back, and what is encoded is bytes.
pub judge_encoded : (A : Automaton) → WellFormed A → judge (encode A) ≡ found A
judge_encoded = encoding.judge_encode

pub encoded_bytes : (A : Automaton) → WellFormed A → (i : ℕ) → get_or (encode A) i 0 < 256
encoded_bytes = encoding.encode_bytes

-- A well-formed table has 24 to 27,416 bytes.
pub table_length : (b : List ℕ) (A : Automaton) → ((i : ℕ) → get_or b i 0 < 256) → judge b ≡ found A
    → (24 ≤ length b) × (length b ≤ 27416)
table_length b A bytes e =
    subst (λ (l : List ℕ). (24 ≤ length l) × (length l ≤ 27416)) (encode_judged b A bytes e)
    (encoding.encode_length A (judged_well_formed b A e))

-- What `decode` returns for a table that it does not refuse is the automaton that was read; it is well-formed, so that it can be written, and is
-- then the table's own bytes.
module _ (b : List ℕ) (r : Result Automaton Refusal) (A : Automaton) (e : reading_of r ≡ judge b) (is : r ≡ Ok A) where
  pub decoded_means : judge b ≡ found A
  unfolding reading_of
  decoded_means = rw is at (sym e)

  pub decoded_writable : WellFormed A
  decoded_writable = judged_well_formed b A decoded_means

  pub decoded_encodes : ((i : ℕ) → get_or b i 0 < 256) → encode A ≡ b
  decoded_encodes bytes = encode_judged b A bytes decoded_means

-- Writing with too little room leaves the output.
pub writing_leaves : (bytes out : List ℕ) (cause : ℕ) → written bytes out ≡ refused cause → written_over bytes out ≡ out
writing_leaves = leaving.written_keeps

-- The members of the empty set, of a set with a state, of a set without one, of a union and of the common states; sets that are the same.
pub empty_members : (r : ℕ) → r < 256 → member empty_set r ≡ false
empty_members = sets.member_empty

pub with_members : (ws : List ℕ) (q r : ℕ) → r < 256 → member (with_state ws q) r ≡ (eqb r q || member ws r)
with_members = sets.member_with

pub without_members : (ws : List ℕ) (q r : ℕ) → r < 256 → member (without_state ws q) r ≡ (not (eqb r q) && member ws r)
without_members = sets.member_without

pub union_members : (ws vs : List ℕ) (r : ℕ) → r < 256 → member (union_of ws vs) r ≡ (member ws r || member vs r)
union_members = sets.member_union

pub meet_members : (ws vs : List ℕ) (r : ℕ) → r < 256 → member (meet_of ws vs) r ≡ (member ws r && member vs r)
meet_members = sets.member_meet

pub same_sets : (ws vs : List ℕ) → length ws ≡ 4 → length vs ≡ 4 → same_set ws vs ≡ true → ws ≡ vs
same_sets = sets.same_set_out
