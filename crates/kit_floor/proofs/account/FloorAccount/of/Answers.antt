use Rattle.std.proofs.Common.{◌≡◌, ℕ, ◌<◌, ◌≤◌, List, length, sym, ap, ◌∙◌, subst}
use Rattle.std.specs.Mem.Slots.{slots_items}
use mathlib.Core.Option.{some}
use lib.ListN.{get_elem?}
use Rattle.kit_ground.specs.declared.place.Place.{Place}
use Rattle.kit_ground.specs.Layout.{memory_of}
use Rattle.kit_ground.specs.Words.{RuledWords}
use Rattle.kit_floor.specs.Accounts.{Account, count_of_federates, places_in_order}
use Rattle.kit_floor.proofs.Closing.{closes}
use Rattle.kit_floor.proofs.account.FloorAccount.of.Goals as goal

pub invariant_of-result : goal.invariant_of-result
invariant_of-result g c =
    let rule = g.P.Protocol.rule in
    let laid = c.requires.laid in
    let seat = c.into_seat.ensures.seat in
    let closed = c.close_with-closed.result in
    let v = c.close_with-closed.ensures.values in
    let n = c.args.table.shared.key.federates in
    let long = (λ i. count_of_federates (laid.federates i) (seat i).me.0) ∙ (c.requires.places ∙ sym laid.federates) in
    let made = closes rule n c.args.table.shared.key.buffers c.into_seat.result.id c.into_seat.result.me.0 (slots_items closed.words) (slots_items closed.slots) v.2 long in
    let same : places_in_order n c.into_seat.result.me.0 ≡ c.of-places.result.value = (λ i. places_in_order (laid.federates i) (seat i).me.0) ∙ sym c.of-places.ensures in (
      subst (λ (x : ℕ × List (Place g.row.P-View.Denot)). RuledWords rule x.0 (slots_items closed.words) x.1) (λ i. (laid.buffers i, same i)) made.ruled,
      ap length (sym same) ∙ (made.many ∙ laid.federates),
      v.0,
      c.close_with-closed.ensures.counts.1 ∙ c.requires.slots,
    )

pub returns-clause-many : goal.returns-clause-many
returns-clause-many g c =
    let rule = g.P.Protocol.rule in
    let laid = c.requires.laid in
    let seat = c.into_seat.ensures.seat in
    let closed = c.close_with-closed.result in
    let v = c.close_with-closed.ensures.values in
    let n = c.args.table.shared.key.federates in
    let long = (λ i. count_of_federates (laid.federates i) (seat i).me.0) ∙ (c.requires.places ∙ sym laid.federates) in
    let made = closes rule n c.args.table.shared.key.buffers c.into_seat.result.id c.into_seat.result.me.0 (slots_items closed.words) (slots_items closed.slots) v.2 long in
    let same : places_in_order n c.into_seat.result.me.0 ≡ c.of-places.result.value = (λ i. places_in_order (laid.federates i) (seat i).me.0) ∙ sym c.of-places.ensures in
    ap length (sym same) ∙ (made.many ∙ laid.federates)

pub returns-clause-each : goal.returns-clause-each
returns-clause-each g c =
    let rule = g.P.Protocol.rule in
    let laid = c.requires.laid in
    let seat = c.into_seat.ensures.seat in
    let closed = c.close_with-closed.result in
    let v = c.close_with-closed.ensures.values in
    let n = c.args.table.shared.key.federates in
    let long = (λ i. count_of_federates (laid.federates i) (seat i).me.0) ∙ (c.requires.places ∙ sym laid.federates) in
    let made = closes rule n c.args.table.shared.key.buffers c.into_seat.result.id c.into_seat.result.me.0 (slots_items closed.words) (slots_items closed.slots) v.2 long in
    let same : places_in_order n c.into_seat.result.me.0 ≡ c.of-places.result.value = (λ i. places_in_order (laid.federates i) (seat i).me.0) ∙ sym c.of-places.ensures in
    λ k p e inside. ap (λ l. get_elem? l p.own.number) (sym same) ∙ made.each k p (ap (λ m. get_elem? m.me.0 k) seat ∙ e) (subst (λ (x : ℕ). p.own.number < x) (sym laid.federates) inside)

pub returns-clause-sees : goal.returns-clause-sees
returns-clause-sees g c =
    let rule = g.P.Protocol.rule in
    let laid = c.requires.laid in
    let seat = c.into_seat.ensures.seat in
    let closed = c.close_with-closed.result in
    let v = c.close_with-closed.ensures.values in
    let n = c.args.table.shared.key.federates in
    let long = (λ i. count_of_federates (laid.federates i) (seat i).me.0) ∙ (c.requires.places ∙ sym laid.federates) in
    let made = closes rule n c.args.table.shared.key.buffers c.into_seat.result.id c.into_seat.result.me.0 (slots_items closed.words) (slots_items closed.slots) v.2 long in
    let same : places_in_order n c.into_seat.result.me.0 ≡ c.of-places.result.value = (λ i. places_in_order (laid.federates i) (seat i).me.0) ∙ sym c.of-places.ensures in
    λ k p e behind. subst (λ (x : ℕ × List (Place g.row.P-View.Denot)). rule.sees (memory_of (length x.1) x.0 (slots_items closed.words)) x.1 p) (λ i. (laid.buffers i, same i))
    (made.sees k p (ap (λ m. get_elem? m.me.0 k) seat ∙ e) (subst (λ (x : ℕ). x ≤ p.own.number) (sym laid.federates) behind))
