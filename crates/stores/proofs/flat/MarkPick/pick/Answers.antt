use Rattle.std.proofs.Common.{◌+◌, ◌<◌, length, map, arith, rules}
use Rattle.std.proofs.lemmas.List.{length-map}
use Rattle.facts.proofs.Nths.{nth_within}
use Rattle.facts.specs.Places.{empty}
use Rattle.stores.proofs.Places.{round_back, round_front, round_none}
use Rattle.stores.proofs.flat.MarkPick.pick.Goals as goal

pub overflow_add-place : goal.overflow_add-place
overflow_add-place g c =
    let s = c.split_at.ensures in
    let i = nth_within (map g.C.Cell.place c.split_at.result.1.now) c.in-Some.further empty c.in-Some.ensures.0 in
    let m = length-map c.split_at.result.1.now g.C.Cell.place in
    let h : length c.split_at.result.0.now + c.in-Some.further < length c.args.cells.now = omega arith in
    search rules

pub returns-in_err-place-in-None : goal.returns-in_err-place-in-None
returns-in_err-place-in-None g c =
    let s = c.split_at.ensures in
    rw c.from_residual.ensures
    (round_none g.C.Cell.place c.args.cells.now c.split_at.result.0.now c.split_at.result.1.now c.args.self.place c.min.result s.front s.back
    c.in-None.ensures c.in_err-place-in-None.ensures)

pub returns-in-Some : goal.returns-in-Some
returns-in-Some g c =
    let s = c.split_at.ensures in
    round_back g.C.Cell.place c.args.cells.now c.split_at.result.0.now c.split_at.result.1.now c.args.self.place c.min.result c.in-Some.further
    c.min.ensures s.front s.back c.in-Some.ensures

pub returns-in_ok-place-in-None : goal.returns-in_ok-place-in-None
returns-in_ok-place-in-None g c =
    let s = c.split_at.ensures in
    round_front g.C.Cell.place c.args.cells.now c.split_at.result.0.now c.split_at.result.1.now c.args.self.place c.min.result
    c.in_ok-place-in-None.place c.min.ensures s.front s.back c.in-None.ensures c.in_ok-place-in-None.ensures
