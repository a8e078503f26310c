use Rattle.std.proofs.Common.{◌≡◌, ℕ, ◌<◌, List, length, sym, ap, ◌∙◌, subst, arith}
use Rattle.std.specs.Mem.Slots.{slots_counts, slots_items, slots_len}
use Rattle.kit_ground.specs.declared.address.Address.{Address}
use Rattle.kit_ground.specs.declared.address.Address.TheVariants.{Register}
use Rattle.kit_ground.specs.Layout.{index_of, size_of}
use Rattle.kit_ground.proofs.Layouts.{on_floor}
use Rattle.kit_floor.specs.Accounts.{Account, memory_at_end}
use Rattle.kit_floor.proofs.Closing.{clock_there, word_is}
use Rattle.kit_floor.proofs.account.FloorAccount.clock.Goals as goal

pub index-requires-clause-there : goal.index-requires-clause-there
index-requires-clause-there g c =
    let a = c.self.inside in
    let i = c.self.invariant in
    let below : c.args.federate < a.federates = subst (λ (x : ℕ). c.args.federate < x) (sym (ap (λ x. length x.places) c.self.view_is) ∙ i.1) c.requires in
    clock_there a.federates a.buffers c.args.federate below

pub word-requires : goal.word-requires
word-requires g c =
    let a = c.self.inside in
    let i = c.self.invariant in
    let clock : Address = Register (record { owner = c.args.federate; slot = 12 }) in
    let below : c.args.federate < a.federates = subst (λ (x : ℕ). c.args.federate < x) (sym (ap (λ x. length x.places) c.self.view_is) ∙ i.1) c.requires in
    let inside = on_floor a.federates a.buffers clock (clock_there a.federates a.buffers c.args.federate below) in
    let all = i.0.sized ∙ ap (λ (n : ℕ). size_of n a.buffers) i.1 in
    let long = (slots_counts a.closed.words).0 in
    let is = c.index.ensures in
    (omega (arith, inside, all, long, is), i.2)

pub returns : goal.returns
returns g c =
    let a = c.self.inside in
    let i = c.self.invariant in
    let clock : Address = Register (record { owner = c.args.federate; slot = 12 }) in
    let below : c.args.federate < length a.places.value = subst (λ (x : ℕ). c.args.federate < x) (sym (ap (λ x. length x.places) c.self.view_is)) c.requires in
    let at = c.index.ensures ∙ ap (λ (n : ℕ). index_of n a.buffers clock) (sym i.1) in
    let here = word_is (length a.places.value) a.buffers (slots_items a.closed.words) clock c.index.result c.word.result (clock_there (length a.places.value) a.buffers c.args.federate below) at c.word.ensures in
    here ∙ ap (λ x. memory_at_end x clock) c.self.view_is
