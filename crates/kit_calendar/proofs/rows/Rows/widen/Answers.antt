use Rattle.std.proofs.Common.{◌<◌, length, arith, sym, ap, ◌∙◌}
use Rattle.std.proofs.lemmas.List.{length-map}
use Rattle.kit_calendar.specs.Rows.{row_of, lists, joined, list_at, IsWithin}
use Rattle.kit_calendar.proofs.Apart.{each_set}
use Rattle.kit_calendar.proofs.Joined.{offset_within}
use Rattle.kit_calendar.proofs.Changed.{list_length}
use Rattle.kit_calendar.proofs.Packed.{within_more, apart_moved, lists_moved}
use Rattle.kit_calendar.proofs.rows.Rows.widen.Goals as goal

pub make_place-requires : goal.make_place-requires
make_place-requires c =
    let q = c.args.self.now in
    let ls = lists q.places.items q.rows.items in
    let len = list_length q.places.items q.rows.items c.args.index c.index-full.result.now c.requires.index c.index-full.ensures q.within in
    let l : c.args.index < length ls = omega (arith, length-map q.rows.items (row_of q.places.items)) in
    omega (arith, offset_within ls c.args.index l, len, q.counted, q.can_widen)

pub widened-row-requires-clause-room : goal.widened-row-requires-clause-room
widened-row-requires-clause-room c =
    let q = c.args.self.now in
    let p = c.make_place.new.self in
    let there : c.args.index < length p.rows.items = omega arith in
    let was = list_length q.places.items q.rows.items c.args.index c.index-full.result.now c.requires.index c.index-full.ensures q.within in
    let is = list_length p.places.items p.rows.items c.args.index c.index.result.now there c.index.ensures p.within in
    let same = ap (λ ls. length (list_at ls c.args.index)) c.make_place.ensures.held in
    omega (arith, was, is, same, c.make_place.ensures.left)

pub invariant_of-self-2-clause-within : goal.invariant_of-self-2-clause-within
invariant_of-self-2-clause-within c =
    let p = c.make_place.new.self in
    let n = length p.places.items in
    let m = length c.widened-row.new.places.items in
    each_set (IsWithin m) p.rows.items c.args.index c.widened-row.result (omega arith, omega arith) (within_more n m p.rows.items (omega arith) p.within)

pub invariant_of-self-2-clause-apart : goal.invariant_of-self-2-clause-apart
invariant_of-self-2-clause-apart c =
    let p = c.make_place.new.self in
    apart_moved (length p.places.items) p.rows.items c.args.index c.widened-row.result c.widened-row.ensures.start p.within p.apart

pub invariant_of-self-2-clause-counted : goal.invariant_of-self-2-clause-counted
invariant_of-self-2-clause-counted c =
    let p = c.make_place.new.self in
    p.counted
    ∙ sym (ap (λ ls. length (joined ls)) (lists_moved p.places.items c.widened-row.new.places.items p.rows.items c.args.index c.index.result.now c.widened-row.result c.widened-row.ensures.kept c.index.ensures p.within c.widened-row.ensures.row))

pub invariant_of-self-2-clause-can_pack : goal.invariant_of-self-2-clause-can_pack
invariant_of-self-2-clause-can_pack c =
    let q = c.args.self.now in
    let p = c.make_place.new.self in
    let there : c.args.index < length p.rows.items = omega arith in
    let was = list_length q.places.items q.rows.items c.args.index c.index-full.result.now c.requires.index c.index-full.ensures q.within in
    let is = list_length p.places.items p.rows.items c.args.index c.index.result.now there c.index.ensures p.within in
    let same = ap (λ ls. length (list_at ls c.args.index)) c.make_place.ensures.held in
    omega (arith, was, is, same, c.make_place.ensures.left, c.widened-row.ensures.len, c.widened-row.ensures.room, c.widened-row.ensures.capacity)

pub returns-clause-held : goal.returns-clause-held
returns-clause-held c =
    let p = c.make_place.new.self in
    lists_moved p.places.items c.widened-row.new.places.items p.rows.items c.args.index c.index.result.now c.widened-row.result c.widened-row.ensures.kept c.index.ensures p.within c.widened-row.ensures.row
    ∙ c.make_place.ensures.held
