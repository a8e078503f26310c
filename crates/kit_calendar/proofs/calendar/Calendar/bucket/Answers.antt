use Rattle.std.proofs.Common.{◌∙◌}
use Rattle.kit_calendar.specs.Rows.{lists}
use Rattle.kit_calendar.proofs.Dealt.{bucket_list}
use Rattle.kit_calendar.proofs.calendar.Calendar.bucket.Goals as goal

pub returns : goal.returns
returns c =
    let q = c.args.self.now in
    c.row.ensures ∙ bucket_list q.width q.buckets c.args.index (lists q.rows.places.items q.rows.rows.items) q.dealt q.arranged q.apart
