use Rattle.std.proofs.Common.{◌≡◌, ◌+◌, ◌-◌, ◌<◌, ◌++◌, true, cond, length, take, drop, get_or, set, arith, refl, sym, ap, ◌∙◌}
use Rattle.std.specs.Result.{is_ok}
use Rattle.std.proofs.lemmas.List.{length-append, append_assoc}
use Rattle.kit_calendar.specs.Rows.{row_of, lists, joined, packed}
use Rattle.kit_calendar.proofs.Joined.{row_length}
use Rattle.kit_calendar.proofs.Changed.{row_within}
use Rattle.kit_calendar.proofs.Packed.{next_row, packed_more, joined_more, joined_first, row_among}
use Rattle.kit_calendar.proofs.rows.gather.Goals as goal

pub loop-index-preserved : goal.loop-index-preserved
loop-index-preserved c =
    let xs = c.args.places.now.items in
    let rows = c.args.rows.now.items in
    let i = c.loop-index.index in
    let r = c.index-row.result.now in
    let inv = c.loop-index.invariant in
    let was = c.loop-index.places.items in
    let l : i < length rows = omega arith in
    let h : r ≡ get_or rows i r = c.index-row.ensures ∙ ap (λ ys. get_or ys i r) inv.rows ∙ next_row rows i r l in
    let first = joined (lists xs (take i rows)) in
    let w = row_within (length xs) rows i r l h c.requires.within in
    let more = joined_more xs rows i r l h in
    let len = row_length xs (length xs) r refl w in
    let long : length was ≡ length xs + length first = ap length inv.places ∙ length-append xs first in
    let o : is_ok c.extend_from_within.result ≡ true = c.extend_from_within.ensures.succeeds (omega (arith, long, length-append first (row_of xs r), ap length more, len, joined_first xs rows (i + 1), inv.capacity, c.requires.room)) in
    let start_is : c.len.result - c.len-front.result ≡ length first = omega (arith, long) in
    let taken : (r.start + r.len) - r.start ≡ r.len = omega arith in
    record {
      places = c.extend_from_within.ensures.items
          ∙ ap (λ b. cond b (was ++ take ((r.start + r.len) - r.start) (drop r.start was)) was) o
          ∙ ap (λ k. was ++ take k (drop r.start was)) taken
          ∙ ap (λ ys. ys ++ row_of ys r) inv.places
          ∙ ap (λ ys. (xs ++ first) ++ ys) (row_among xs first r w)
          ∙ append_assoc xs first (row_of xs r)
          ∙ ap (λ ys. xs ++ ys) (sym more);
      rows = ap (λ ys. set ys i (record { start = c.len.result - c.len-front.result; len = r.len; room = r.len })) inv.rows
          ∙ ap (λ n. set (packed 0 (take i rows) ++ drop i rows) i (record { start = n; len = r.len; room = r.len })) start_is
          ∙ packed_more xs rows i r c.requires.within l h;
      capacity = omega (arith, inv.capacity, c.extend_from_within.ensures.capacity);
    }
