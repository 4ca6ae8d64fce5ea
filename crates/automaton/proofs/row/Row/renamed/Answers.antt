use Rattle.std.proofs.Common.{◌≡◌, ◌∙◌, ℕ, arith, get_or, map, rules, sym}
use Rattle.std.proofs.lemmas.List.{take-map}
use Rattle.automaton.specs.Automaton.{renamed}
use Rattle.automaton.proofs.row.Children.{mapped}
use Rattle.automaton.proofs.row.Row.renamed.Goals as goal

pub returns : goal.returns
unfolding renamed
returns c =
    let name : ℕ → ℕ = λ q. get_or c.args.names.now q 0 in
    let items = c.map.ensures.items in
    let children : c.map.result ≡ map name c.args.self.children =
    mapped name c.args.self.children c.map.result (items.long ∙ sym c.args.self.room)
    (λ i h. let (p, q, call) = items.at i 0 0 (omega (arith, c.args.self.room)) in search (rules, call)) in
    rw (children, take-map name c.args.self.rank c.args.self.children) (cc)
