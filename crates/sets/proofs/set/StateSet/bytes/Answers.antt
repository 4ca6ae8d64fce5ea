use Rattle.std.proofs.Common.{rules, ◌∙◌, []}
use Rattle.sets.proofs.SetBytes.{bytes_by_word}
use Rattle.sets.proofs.set.StateSet.bytes.Goals as goal

pub returns : goal.returns
returns c =
    c.copy_from_slice.ensures.after ∙ c.as_flattened.ensures.value
    ∙ bytes_by_word c.args.self.words c.map.result c.map.ensures.items.long
    (λ i h. let (p, q, call) = c.map.ensures.items.at i 0 [] h in search (rules, call))
