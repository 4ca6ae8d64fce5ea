-- The six steps computed: of document 01's bench table T, and of an automaton in which a block's number depends on which of its members counts.
use mathlib.Core.Path.{◌≡◌, refl}
use mathlib.Core.List.{[], ◌∷◌}
use Rattle.lists.specs.Lists.{from, keep, all, any, among}
use Rattle.automaton.specs.Automaton.{Automaton, renamed}
use Rattle.automaton.proofs.Examples.{rule, T}
use Rattle.refinement.specs.Simulation.{relation, relation_at, rounds, settle, all_pairs, refine, survives, matched, matched_by, paired, related}
use Rattle.stages.specs.Steps.{found_in, closure, buildable, productive, names_only, trimmed, below, equivalent, first_of, representative}
use Rattle.stages.specs.Steps.{same_states, same_rule, firsts, quotient, dominated_by, dominated, pruned, needed, kept, restricted}
use Rattle.stages.specs.Steps.{position, numbered, shortened, reduce}

-- a → 0, b → 0, f(0,0) → 1: the block of 0 and 1 is no child of a rule that step 4 leaves, so step 5 drops it.
pub T_reduced : reduce T ≡ record {
  states = 2;
  ranks = 0 ∷ 0 ∷ 2 ∷ [];
  finals = 1 ∷ [];
  rules = rule 0 0 [] ∷ rule 1 0 [] ∷ rule 2 1 (0 ∷ 0 ∷ []) ∷ [];
}
unfolding reduce shortened numbered position restricted kept needed pruned dominated dominated_by quotient firsts same_rule same_states renamed
    representative first_of equivalent below trimmed names_only productive buildable closure found_in among relation relation_at rounds settle
    all_pairs refine keep survives matched matched_by paired related any all from
T_reduced = refl

-- a → 0, b → 1, a → 2, all final: the block of 0 and 2 comes before that of 1.
abbrev pub apart : Automaton
apart = record { states = 3; ranks = 0 ∷ 0 ∷ []; finals = 0 ∷ 1 ∷ 2 ∷ []; rules = rule 0 0 [] ∷ rule 1 1 [] ∷ rule 0 2 [] ∷ [] }

pub apart_reduced : reduce apart ≡ record {
  states = 2;
  ranks = 0 ∷ 0 ∷ [];
  finals = 0 ∷ 1 ∷ [];
  rules = rule 0 0 [] ∷ rule 1 1 [] ∷ [];
}
unfolding reduce shortened numbered position restricted kept needed pruned dominated dominated_by quotient firsts same_rule same_states renamed
    representative first_of equivalent below trimmed names_only productive buildable closure found_in among relation relation_at rounds settle
    all_pairs refine keep survives matched matched_by paired related any all from
apart_reduced = refl
