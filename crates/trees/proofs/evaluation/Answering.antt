-- The answer for a tree in bytes, from what its nodes leave on the stack; and what an evaluator holds. For `accept_tree` and the functions under it.
use Prim.Native.Nat.{ℕ, zero, suc, ◌-◌, ◌/◌, ◌≤◌, ◌<◌}
use native.Mathlib.Omega.{arith}
use mathlib.Core.Path.{◌≡◌, refl, sym, ap, ◌∙◌}
use mathlib.Core.List.{List}
use mathlib.Core.Bool.{true, false, cond, not}
use lib.ListN.{length, get_or}
use borrow.Author.Tests.{le-leb, lt-leb}
use Rattle.std.specs.Prelude.{Option, Some, None, Result, Ok, Err}
use Rattle.std.specs.Option.{unwrap_or}
use Rattle.lists.specs.Lists.{from, keep, any, among}
use Rattle.lists.proofs.Search.{among_kept, any_agree}
use Rattle.sets.specs.Set.{member, empty_set, meet_of, same_set}
use Rattle.sets.specs.Inner.{states_in}
use Rattle.sets.specs.declared.set.StateSet.{StateSet}
use Rattle.sets.proofs.StateSets.{states_low, common_state}
use Rattle.records.specs.Bytes.{numbers}
use Rattle.records.specs.Record.{opened, body_of}
use Rattle.records.specs.Refusal.{number_of}
use Rattle.records.specs.Answers.{reading_of}
use Rattle.records.specs.Read.{Read, found, refused, map_read, ◌>>=◌, ◌>>◌, check}
use Rattle.records.specs.declared.refusal.Refusal.{Refusal}
use Rattle.records.proofs.Fields.{length_numbers}
use Rattle.records.proofs.Reading.{bind_bind}
use Rattle.automaton.specs.Automaton.{Automaton, WellFormed}
use Rattle.trees.specs.Postfix.{single, is_tree_record, judge_tree}
use Rattle.trees.specs.Subtree.{Finding, first_of, accepted, rejected, pointed}
use Rattle.trees.specs.Walk.{Waiting, Walk, start, advance_all, closing}
use Rattle.trees.specs.Inner.{set_at, stack_by, stack_in, walk_in, nodes_finding, tree_finding}
use Rattle.trees.specs.declared.entry.Entry.{Entry}
use Rattle.trees.specs.declared.evaluation.Subtree.{Subtree}
use Rattle.trees.proofs.evaluation.Entries.{set_is}
use Rattle.trees.proofs.Walking.{walk_agrees, start_invariant, walked_invariant}

-- The lowest tree's set and the final states have a common state.
pub met_final : (stack : List Entry) (t : Entry) (finals meet : StateSet) → 0 < length stack → t ≡ get_or stack 0 t
    → meet.words ≡ meet_of t.states.words finals.words
    → not (same_set meet.words empty_set) ≡ any (member (set_at stack 0)) (states_in 256 finals.words)
unfolding states_in
met_final stack t finals meet some is are =
    let same : meet.words ≡ meet_of (set_at stack 0) finals.words =
    are ∙ ap (λ (ws : List ℕ). meet_of ws finals.words) (set_is stack 0 t some is) in
    rw same (common_state (set_at stack 0) finals.words (rw same at meet.bits))

-- One tree on the stack, or another number of trees.
module _ (A : Automaton) (stack : List Entry) (height nodes : ℕ) (first : Option Subtree) where
  pub not_one_refused : (height ≡ 1 → ⊥) → refused 10 ≡ closing A (walk_in stack height nodes first)
  unfolding closing walk_in single stack_by ◌>>=◌
  not_one_refused other = go height other
    where
      go : (h : ℕ) → (h ≡ 1 → ⊥) → refused 10 ≡ (single (stack_in stack h nodes)
          >>= (λ (t : Waiting). found (cond (any (among t.states) A.finals) accepted (pointed (first_of first) nodes))))
      go zero other = refl
      go (suc zero) other = absurd (other refl)
      go (suc (suc h)) other = refl

  pub one_answered : (set : List ℕ) → A.finals ≡ states_in 256 set → height ≡ 1
      → closing A (walk_in stack height nodes first)
      ≡ found (cond (any (member (set_at stack 0)) (states_in 256 set)) accepted (pointed (first_of first) nodes))
  unfolding closing walk_in single stack_by states_in ◌>>=◌
  one_answered set finals one =
      let same : any (among (keep (member (set_at stack 0)) (from 0 256))) A.finals
      ≡ any (member (set_at stack 0)) (keep (member set) (from 0 256)) =
      rw finals (any_agree _ _ (keep (member set) (from 0 256)) (λ q m. among_kept (member (set_at stack 0)) 256 q (states_low 256 set q m))) in
      rw (one, same)

-- The subtree that is named.
pub named_pointed : (first : Option Subtree) (nodes : ℕ) (t : Subtree) → t ≡ unwrap_or first (record { node = nodes - 1; size = nodes })
    → rejected t.node t.size ≡ pointed (first_of first) nodes
unfolding first_of pointed
named_pointed (Some s) nodes t is = rw is
named_pointed None nodes t is = rw is

-- The nodes.
module _ (A : Automaton) (symbols : List ℕ) (answer : Result Walk Refusal) (s : reading_of answer ≡ advance_all A start symbols) where
  pub nodes_refused : (cause : Refusal) → answer ≡ Err cause → refused (number_of cause) ≡ nodes_finding A symbols
  unfolding nodes_finding reading_of map_read ◌>>=◌
  nodes_refused cause e = rw (← s, e)

  module _ (walk : Walk) (e : answer ≡ Ok walk) where
    pub walked_few : length walk.stack ≤ walk.nodes
    unfolding reading_of map_read
    walked_few = (walked_invariant A start symbols (start_invariant A) (sym s ∙ ap reading_of e)).0.few

    pub nodes_found : (r : Read Finding) → r ≡ closing A walk → r ≡ nodes_finding A symbols
    unfolding nodes_finding reading_of map_read ◌>>=◌
    nodes_found r is = is ∙ rw (← s, e)

-- The bytes.
module _ (A : Automaton) (b : List ℕ) where
  pub not_a_tree_refused : is_tree_record (opened b) b ≡ false → tree_finding A b ≡ refused 8
  unfolding tree_finding judge_tree check ◌>>◌ ◌>>=◌
  not_a_tree_refused t = rw t

  module _ (t : is_tree_record (opened b) b ≡ true) (body : List ℕ) (is : body ≡ body_of b) where
    pub many_nodes_refused : 16384 < length body / 2 → tree_finding A b ≡ refused 11
    unfolding tree_finding judge_tree check ◌>>◌ ◌>>=◌
    many_nodes_refused h =
        let many : 16384 < length (numbers body) = omega (arith, length_numbers body) in
        rw (t, ← is, lt-leb (length (numbers body)) 16384 many)

    pub tree_of_nodes : WellFormed A → length body / 2 ≤ 16384 → tree_finding A b ≡ nodes_finding A (numbers body)
    unfolding tree_finding judge_tree check ◌>>◌
    tree_of_nodes wf h =
        let few : length (numbers body) ≤ 16384 = omega (arith, length_numbers body) in
        rw (t, ← is, le-leb (length (numbers body)) 16384 few, walk_agrees A wf)
        (bind_bind _ single _ _ (λ t. refl))
