use Rattle.std.proofs.Common.{◌≡◌, ℕ, true, sym, ap, ◌∙◌, subst, length}
use Rattle.kit_ground.specs.declared.address.Address.{Address}
use Rattle.kit_ground.specs.Coming.{AreSteps, IsOneStep}
use Rattle.kit_ground.specs.Floors.{Floor, RulesHold, memory, place_of}
use Rattle.kit_ground.specs.Layout.{is_there}
use Rattle.kit_ground.specs.Rules.{WasFound}
use Rattle.kit_ground.specs.Steps.{address_of, place_after, with_found}
use Rattle.kit_ground.proofs.PlainSteps as steps
use Rattle.kit_ground.proofs.plain.PlainFloor.step.Goals as goal

pub address-address-requires : goal.address-address-requires
address-address-requires g c =
    let rule = g.P.Protocol.rule in let first = g.P.Protocol.first in let f = c.args.self.now in let r = c.sizes-me.ensures.ruled in
    steps.posted_in_pool rule first f r c.args.about c.requires.allowed

pub load-found-requires : goal.load-found-requires
load-found-requires g c =
    let rule = g.P.Protocol.rule in let first = g.P.Protocol.first in let f = c.args.self.now in let r = c.sizes-me.ensures.ruled in
    let is = c.address-address.ensures (place_of first f).own (steps.number rule first f r ∙ sym c.sizes-me.ensures.seated) in
    subst (λ (x : Address). is_there (length f.places) f.buffers x ≡ true) (sym is) (steps.there rule first f r g.E.Event.next c.args.about c.requires.allowed)

pub index-at-requires : goal.index-at-requires
index-at-requires g c =
    let rule = g.P.Protocol.rule in let first = g.P.Protocol.first in let f = c.args.self.now in let r = c.sizes-me.ensures.ruled in
    let is = c.address-address.ensures (place_of first f).own (steps.number rule first f r ∙ sym c.sizes-me.ensures.seated) in
    subst (λ (x : Address). is_there (length f.places) f.buffers x ≡ true) (sym is) (steps.there rule first f r g.E.Event.next c.args.about c.requires.allowed)

pub act-requires-clause-kept : goal.act-requires-clause-kept
act-requires-clause-kept g c =
    let rule = g.P.Protocol.rule in let first = g.P.Protocol.first in let f = c.args.self.now in let r = c.sizes-me.ensures.ruled in let next = g.E.Event.next in
    let is = c.address-address.ensures (place_of first f).own (steps.number rule first f r ∙ sym c.sizes-me.ensures.seated) in
    let so = steps.made_so rule first f r next c.args.about c.address-address.result c.load-found.result c.index-at.result c.stored.result c.finding-deed.result is c.load-found.ensures c.finding-deed.ensures c.index-at.ensures.index c.stored.ensures in
    subst (RulesHold rule) (sym so) (steps.ruled_after rule first f r next c.args.about c.requires.allowed c.requires.keeps)

pub returns-clause-came : goal.returns-clause-came
returns-clause-came g c =
    let rule = g.P.Protocol.rule in let first = g.P.Protocol.first in let f = c.args.self.now in let r = c.sizes-me.ensures.ruled in let next = g.E.Event.next in
    let is = c.address-address.ensures (place_of first f).own (steps.number rule first f r ∙ sym c.sizes-me.ensures.seated) in
    let so = steps.made_so rule first f r next c.args.about c.address-address.result c.load-found.result c.index-at.result c.stored.result c.finding-deed.result is c.load-found.ensures c.finding-deed.ensures c.index-at.ensures.index c.stored.ensures in
    subst (AreSteps first f) (sym (c.act.ensures ∙ so)) (steps.came_step rule first f r next c.args.about)

pub returns-clause-did : goal.returns-clause-did
returns-clause-did g c =
    let rule = g.P.Protocol.rule in let first = g.P.Protocol.first in let f = c.args.self.now in let r = c.sizes-me.ensures.ruled in let next = g.E.Event.next in
    let is = c.address-address.ensures (place_of first f).own (steps.number rule first f r ∙ sym c.sizes-me.ensures.seated) in
    let so = steps.made_so rule first f r next c.args.about c.address-address.result c.load-found.result c.index-at.result c.stored.result c.finding-deed.result is c.load-found.ensures c.finding-deed.ensures c.index-at.ensures.index c.stored.ensures in
    let found = c.load-found.ensures ∙ ap (memory f) is in
    subst (λ (x : ℕ × Floor _ _). IsOneStep first f (with_found c.args.about x.0) x.1) (λ i. (sym found i, sym (c.act.ensures ∙ so) i)) (steps.did_step rule first f r next c.args.about c.requires.allowed)

pub returns-clause-place : goal.returns-clause-place
returns-clause-place g c =
    let rule = g.P.Protocol.rule in let first = g.P.Protocol.first in let f = c.args.self.now in let r = c.sizes-me.ensures.ruled in let next = g.E.Event.next in
    let is = c.address-address.ensures (place_of first f).own (steps.number rule first f r ∙ sym c.sizes-me.ensures.seated) in
    let so = steps.made_so rule first f r next c.args.about c.address-address.result c.load-found.result c.index-at.result c.stored.result c.finding-deed.result is c.load-found.ensures c.finding-deed.ensures c.index-at.ensures.index c.stored.ensures in
    let found = c.load-found.ensures ∙ ap (memory f) is in
    ap (place_of first) (c.act.ensures ∙ so) ∙ (steps.place_is_after rule first f r next c.args.about ∙ (λ i. place_after next (with_found c.args.about (sym found i)) (place_of first f)))

pub returns-clause-told : goal.returns-clause-told
returns-clause-told g c =
    let rule = g.P.Protocol.rule in let first = g.P.Protocol.first in let f = c.args.self.now in let r = c.sizes-me.ensures.ruled in
    let is = c.address-address.ensures (place_of first f).own (steps.number rule first f r ∙ sym c.sizes-me.ensures.seated) in
    let found = c.load-found.ensures ∙ ap (memory f) is in
    subst (WasFound rule (place_of first f) (address_of (place_of first f).own c.args.about)) (sym found) (steps.told rule first f r g.E.Event.next c.args.about)
