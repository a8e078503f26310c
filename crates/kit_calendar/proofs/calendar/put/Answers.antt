use Rattle.std.proofs.Common.{◌≡◌, ◌+◌, ◌%◌, ◌/◌, ◌<◌, length, arith, sym, ap, ◌∙◌, subst}
use Rattle.std.specs.List.{AllByRecursion, insert}
use Rattle.std.proofs.lemmas.List.{length-map}
use Rattle.kit_queue.specs.declared.entry.Entry.{Entry}
use Rattle.kit_queue.specs.Entries.{IsInOrder, put_entry}
use Rattle.kit_calendar.specs.Rows.{row_of, lists, joined, list_at}
use Rattle.kit_calendar.specs.Buckets.{bucket_of, IsDealt}
use Rattle.kit_calendar.proofs.Gathered.{each_put}
use Rattle.kit_calendar.proofs.Dealt.{put_joined, dealt_set, list_dealt, list_in_order}
use Rattle.kit_calendar.proofs.calendar.put.Goals as goal

pub place-at-requires : goal.place-at-requires
place-at-requires c =
    let q = c.args.rows.now in
    let ls = lists q.places.items q.rows.items in
    subst IsInOrder (sym c.row.ensures) (list_in_order c.args.width (length ls) 0 ls c.bucket_at-row.result c.requires.dealt c.requires.arranged)

pub returns-clause-waiting : goal.returns-clause-waiting
returns-clause-waiting c =
    let q = c.args.rows.now in
    let ls = lists q.places.items q.rows.items in
    let i = c.bucket_at-row.result in
    let n : c.len.result ≡ length ls = omega (arith, length-map q.rows.items (row_of q.places.items)) in
    let b : i ≡ bucket_of c.args.width (length ls) c.args.entry.message = c.bucket_at-row.ensures ∙ ap (λ k. c.args.entry.message.time / c.args.width % k) n in
    let l : i < length ls = omega (arith, c.requires.rows, b) in
    let p = subst (λ es. put_entry c.args.entry es ≡ insert es c.place-at.result c.args.entry) c.row.ensures c.place-at.ensures.place in
    ap joined c.insert.ensures.held ∙ sym (put_joined c.args.width (length ls) 0 c.args.entry ls i c.place-at.result c.requires.dealt (omega (arith, b)) l p)

pub returns-clause-dealt : goal.returns-clause-dealt
returns-clause-dealt c =
    let q = c.args.rows.now in
    let ls = lists q.places.items q.rows.items in
    let i = c.bucket_at-row.result in
    let n : c.len.result ≡ length ls = omega (arith, length-map q.rows.items (row_of q.places.items)) in
    let b : i ≡ bucket_of c.args.width (length ls) c.args.entry.message = c.bucket_at-row.ensures ∙ ap (λ k. c.args.entry.message.time / c.args.width % k) n in
    let p = subst (λ es. put_entry c.args.entry es ≡ insert es c.place-at.result c.args.entry) c.row.ensures c.place-at.ensures.place in
    let own = λ (e : Entry). bucket_of c.args.width (length ls) e.message ≡ 0 + i in
    let all : AllByRecursion own (insert (list_at ls i) c.place-at.result c.args.entry) = subst (AllByRecursion own) p (each_put own c.args.entry (list_at ls i) (omega (arith, b)) (list_dealt c.args.width (length ls) 0 ls i c.requires.dealt)) in
    subst (IsDealt c.args.width (length ls) 0) (sym c.insert.ensures.held) (dealt_set c.args.width (length ls) 0 ls i _ c.requires.dealt all)
