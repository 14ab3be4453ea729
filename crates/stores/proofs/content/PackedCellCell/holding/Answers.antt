use Rattle.std.proofs.Common.{ap, ◌∙◌}
use Rattle.facts.specs.Places.{held}
use Rattle.stores.proofs.Words.{under_held, word_exact, words_exact}
use Rattle.stores.proofs.content.PackedCellCell.holding.Goals as goal

pub returns : goal.returns
returns g c p q =
    let f = c.args.fact.now in
    let low = g.V.Kind.low in
    let high = g.V.Kind.high in
    let u = g.met.V.Kind.under in
    under_held c.args.number _ p
    ∙ ap (held c.args.number)
    (words_exact low high c.label_of.result c.word_of.result c.word_of-2.result c.word_of-3.result f.name f.count _ _ _
    c.label_of.ensures.name c.label_of.ensures.count q
    (λ h. word_exact low high _ _ (c.word_of.ensures.kept h) (u _))
    (λ h. word_exact low high _ _ (c.word_of-2.ensures.kept h) (u _))
    (λ h. word_exact low high _ _ (c.word_of-3.ensures.kept h) (u _)))
