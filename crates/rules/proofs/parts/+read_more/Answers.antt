use Rattle.std.proofs.Common.{◌≡◌, ℕ, ◌-◌, ◌<◌, true, eqb, sym, ap, ◌∙◌, subst, rules}
use Rattle.words.specs.Words.{tag, kind_of, clean}
use Rattle.grammar.specs.Reading.{ok, read_parts}
use Rattle.rules.specs.Progress.{front}
use Rattle.rules.proofs.Steps.{parts_more, adds_more}
use Rattle.rules.proofs.parts.+read_more.Goals as goal

pub returns-clause-reads : goal.returns-clause-reads
returns-clause-reads g t c =
    let read = g.P.Part.reads in
    let k : ℕ = tag c.args.kind in
    let w : ℕ = c.in-Some.first in
    let i = c.from-word.ensures.0 in
    let j = c.from-word.ensures.1 in
    let u = c.in_ok-unless.ensures.passes in
    let e : eqb (kind_of w) k ≡ true = cc in
    let d : clean w ≡ true = cc in
    let r : 0 < c.args.room = search rules in
    let more
    : front c.args.parts.now.items (read_parts read k c.args.room c.args.ws.now)
    ≡ front c.push.new.self.items (read_parts read k (c.args.room - 1) c.in_ok-part.next.now)
    = parts_more read k c.args.room c.args.parts.now.items c.args.ws.now w c.in-Some.after.now c.in-Some.ensures
    e d r c.in_ok-part.part c.in_ok-part.next.now (subst (λ (n : ℕ). read n c.in-Some.after.now ≡ ok c.in_ok-part.part c.in_ok-part.next.now) j c.in_ok-part.ensures)
    ∙ ap (λ xs. front xs (read_parts read k (c.args.room - 1) c.in_ok-part.next.now)) (sym c.push.ensures.items) in
    adds_more _ _ _ _ _ c.read_more.result more c.read_more.ensures.reads
