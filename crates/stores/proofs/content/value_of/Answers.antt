use Rattle.std.proofs.Common.{◌≡◌, arith}
use Rattle.std.proofs.lemmas.Int.{ints, clamps}
use Rattle.stores.specs.Cells.{word_value}
use Rattle.stores.proofs.Words.{word_made}
use Rattle.stores.proofs.content.value_of.Goals as goal

pub unreachable-requires : goal.unreachable-requires
unreachable-requires g c =
    let e = g.met.V.Kind.ends in
    let l = g.met.V.Kind.least in
    let m = g.met.V.Kind.most in
    let h : c.min-n.result ≡ word_value g.V.Kind.low g.V.Kind.high c.args.word =
    word_made g.V.Kind.low g.V.Kind.high _ _ _ _ _ e l m c.low.ensures c.high.ensures c.saturating_add_unsigned.ensures c.min-n.ensures.value in
    c.in_default.ensures (omega (arith, ints, clamps), omega (arith, ints, clamps))

pub returns : goal.returns
returns g c =
    let e = g.met.V.Kind.ends in
    let l = g.met.V.Kind.least in
    let m = g.met.V.Kind.most in
    let h : c.min-n.result ≡ word_value g.V.Kind.low g.V.Kind.high c.args.word =
    word_made g.V.Kind.low g.V.Kind.high _ _ _ _ _ e l m c.low.ensures c.high.ensures c.saturating_add_unsigned.ensures c.min-n.ensures.value in
    omega (arith, ints, clamps, c.in-Some.ensures.1)
