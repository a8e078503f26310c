use Rattle.std.proofs.Common.{◌≡◌, length, drop, arith, sym, ap, ◌∙◌, subst}
use Rattle.std.proofs.Math.Seq.{drop-append_seam}
use Rattle.kit_calendar.specs.Rows.{lists, joined, AreWithin, AreApart}
use Rattle.kit_calendar.proofs.Packed.{lists_packed, within_packed, apart_packed, length_packed}
use Rattle.kit_calendar.proofs.rows.Rows.pack.Goals as goal

pub invariant_of-self-clause-within : goal.invariant_of-self-clause-within
invariant_of-self-clause-within c =
    let q = c.args.self.now in
    let all = joined (lists q.places.items q.rows.items) in
    let front : c.len-front.result ≡ length q.places.items = omega arith in
    let is = c.drop_front.ensures.items ∙ ap (λ n. drop n c.gather.new.places.items) front ∙ ap (drop (length q.places.items)) c.gather.ensures.places ∙ drop-append_seam q.places.items all in
    subst (λ es. AreWithin (length es) c.gather.new.rows.items) (sym is) (subst (AreWithin (length all)) (sym c.gather.ensures.rows) (within_packed q.places.items q.rows.items q.within))

pub invariant_of-self-clause-apart : goal.invariant_of-self-clause-apart
invariant_of-self-clause-apart c = subst AreApart (sym c.gather.ensures.rows) (apart_packed c.args.self.now.rows.items)

pub invariant_of-self-clause-counted : goal.invariant_of-self-clause-counted
invariant_of-self-clause-counted c =
    let q = c.args.self.now in
    let all = joined (lists q.places.items q.rows.items) in
    let front : c.len-front.result ≡ length q.places.items = omega arith in
    let is = c.drop_front.ensures.items ∙ ap (λ n. drop n c.gather.new.places.items) front ∙ ap (drop (length q.places.items)) c.gather.ensures.places ∙ drop-append_seam q.places.items all in
    q.counted
    ∙ sym (ap (λ es. length (joined (lists es c.gather.new.rows.items))) is ∙ ap (λ rs. length (joined (lists all rs))) c.gather.ensures.rows ∙ ap (λ ls. length (joined ls)) (lists_packed q.places.items q.rows.items q.within))

pub invariant_of-self-clause-can_pack : goal.invariant_of-self-clause-can_pack
invariant_of-self-clause-can_pack c =
    let q = c.args.self.now in
    let all = joined (lists q.places.items q.rows.items) in
    let front : c.len-front.result ≡ length q.places.items = omega arith in
    let is = c.drop_front.ensures.items ∙ ap (λ n. drop n c.gather.new.places.items) front ∙ ap (drop (length q.places.items)) c.gather.ensures.places ∙ drop-append_seam q.places.items all in
    let long : length c.drop_front.new.places.items ≡ q.count = ap length is ∙ sym q.counted in
    omega arith

pub returns-clause-held : goal.returns-clause-held
returns-clause-held c =
    let q = c.args.self.now in
    let all = joined (lists q.places.items q.rows.items) in
    let front : c.len-front.result ≡ length q.places.items = omega arith in
    let is = c.drop_front.ensures.items ∙ ap (λ n. drop n c.gather.new.places.items) front ∙ ap (drop (length q.places.items)) c.gather.ensures.places ∙ drop-append_seam q.places.items all in
    ap (λ es. lists es c.gather.new.rows.items) is ∙ ap (lists all) c.gather.ensures.rows ∙ lists_packed q.places.items q.rows.items q.within

pub returns-clause-places : goal.returns-clause-places
returns-clause-places c =
    let q = c.args.self.now in
    let all = joined (lists q.places.items q.rows.items) in
    let front : c.len-front.result ≡ length q.places.items = omega arith in
    c.drop_front.ensures.items ∙ ap (λ n. drop n c.gather.new.places.items) front ∙ ap (drop (length q.places.items)) c.gather.ensures.places ∙ drop-append_seam q.places.items all

pub returns-clause-rows : goal.returns-clause-rows
returns-clause-rows c = ap length c.gather.ensures.rows ∙ length_packed c.args.self.now.rows.items 0
