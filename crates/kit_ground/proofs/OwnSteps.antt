-- What a seat knows of itself fits after each step.
use Rattle.std.proofs.Common.{◌≡◌, ◌≢◌, ℕ, ◌<◌, ◌≤◌, length, refl, sym, ◌∙◌, subst, arith, length-set, get_or-set_same, get_or-set_other}
use Rattle.std.specs.Prelude.{slice_index, slice_set}
use mathlib.Core.Logic.{dite}
use native.Mathlib.Decide.{ℕ_discrete}
use Rattle.kit_ground.specs.declared.address.Address.TheVariants.{Register, Stop}
use Rattle.kit_ground.specs.declared.address.Reg.{Reg}
use Rattle.kit_ground.specs.declared.place.Deed.{Deed}
use Rattle.kit_ground.specs.declared.place.Deed.TheVariants.{Looked, Published, Stopped, SawFree, Collected}
use Rattle.kit_ground.specs.declared.place.SeatState.{SeatState}
use Rattle.kit_ground.specs.Layout.{mail_words}
use Rattle.kit_ground.specs.Memory.{Memory, with_word}
use Rattle.kit_ground.specs.Rules.{OwnFits}
use Rattle.kit_ground.specs.Steps.{Allowed, address_of, becomes, mail_index, own_after, reg_index}
use Rattle.kit_ground.proofs.Memories.{register_else, stored_here, stored_same}

-- the memory after the step
abbrev pub memory_after : Memory → SeatState → Deed → Memory
memory_after m o deed = with_word m (address_of o deed) (becomes deed (m (address_of o deed)))

length-registers_after : (deed : Deed) (o : SeatState) → length (own_after deed o).registers ≡ length o.registers
length-registers_after (Looked r word) o = length-set o.registers (reg_index r) _
length-registers_after _ o = refl

length-counts_after : (deed : Deed) (o : SeatState) → length (own_after deed o).counts ≡ length o.counts
length-counts_after (SawFree k free) o = length-set o.counts k _
length-counts_after _ o = refl

length-mail_after : (deed : Deed) (o : SeatState) → length (own_after deed o).mail ≡ length o.mail
length-mail_after (Collected i w mail) o = length-set o.mail (mail_index (mail_words o.buffers) i w) _
length-mail_after _ o = refl

length-shown_after : (deed : Deed) (o : SeatState) → length (own_after deed o).shown ≡ length o.shown
length-shown_after (Published r word) o = length-set o.shown r.slot word
length-shown_after _ o = refl

length-collects_after : (deed : Deed) (o : SeatState) → length (own_after deed o).collects ≡ length o.collects
length-collects_after (Collected i w mail) o = length-set o.collects (mail_index (mail_words o.buffers) i w) _
length-collects_after _ o = refl

-- a register of another federate is as before
pub register_of_other : (m : Memory) (o : SeatState) (deed : Deed) (r : Reg) → Allowed o deed (m (address_of o deed)) → r.owner ≢ o.number → memory_after m o deed (Register r) ≡ m (Register r)
register_of_other m o (Looked c word) r a apart = λ i. stored_same m (Register c) i (Register r)
register_of_other m o (Published c word) r a apart = register_else m c r word (λ e. absurd (apart (e ∙ a.0)))
register_of_other m o _ r a apart = refl

-- and so is an own one, but for what was published
own_register : (m : Memory) (o : SeatState) (deed : Deed) (s : ℕ) → Allowed o deed (m (address_of o deed)) → length o.shown ≡ 13 → s < 13
    → m (Register (record { owner = o.number; slot = s })) ≡ slice_index o.shown s
    → memory_after m o deed (Register (record { owner = o.number; slot = s })) ≡ slice_index (own_after deed o).shown s
own_register m o (Looked c word) s a long ls shows = (λ i. stored_same m (Register c) i (Register (record { owner = o.number; slot = s }))) ∙ shows
own_register m o (Published c word) s a long ls shows = dite (ℕ_discrete s c.slot)
    (λ same. subst (λ (r : Reg). with_word m (Register c) word (Register r) ≡ slice_index (slice_set o.shown c.slot word) r.slot) (λ i. record { owner = a.0 i; slot = sym same i })
    (stored_here m (Register c) word ∙ sym (get_or-set_same o.shown c.slot word 0 (omega arith))))
    (λ other. register_else m c (record { owner = o.number; slot = s }) word (λ _. other) ∙ (shows ∙ sym (get_or-set_other o.shown c.slot s word 0 other)))
own_register m o _ s a long ls shows = shows

-- where the stop word was set it stays set
stop_stays : (m : Memory) (o : SeatState) (deed : Deed) → m Stop ≡ 1 → memory_after m o deed Stop ≡ 1
stop_stays m o Stopped set = refl
stop_stays m o _ set = set

-- and where the seat ever set it
own_stop : (m : Memory) (o : SeatState) (deed : Deed) → (0 < o.stops → m Stop ≡ 1) → 0 < (own_after deed o).stops → memory_after m o deed Stop ≡ 1
own_stop m o Stopped set some = refl
own_stop m o _ set some = set some

pub own_fits_after : (m : Memory) (n b : ℕ) (o : SeatState) (deed : Deed) → Allowed o deed (m (address_of o deed)) → OwnFits m n b o.number o → OwnFits (memory_after m o deed) n b o.number (own_after deed o)
own_fits_after m n b o deed a h = record {
  number = refl;
  federates = h.federates;
  buffers = h.buffers;
  registers = length-registers_after deed o ∙ h.registers;
  counts = length-counts_after deed o ∙ h.counts;
  mail = length-mail_after deed o ∙ h.mail;
  shown = length-shown_after deed o ∙ h.shown;
  collects = length-collects_after deed o ∙ h.collects;
  shows = λ s ls. own_register m o deed s a h.shown ls (h.shows s ls);
  stopped = own_stop m o deed h.stopped;
}

-- what another seat knows of itself
pub others_fit_after : (m : Memory) (n b j : ℕ) (o q : SeatState) (deed : Deed) → Allowed o deed (m (address_of o deed)) → j ≢ o.number → OwnFits m n b j q → OwnFits (memory_after m o deed) n b j q
others_fit_after m n b j o q deed a apart h = record {
  number = h.number;
  federates = h.federates;
  buffers = h.buffers;
  registers = h.registers;
  counts = h.counts;
  mail = h.mail;
  shown = h.shown;
  collects = h.collects;
  shows = λ s ls. register_of_other m o deed (record { owner = j; slot = s }) a apart ∙ h.shows s ls;
  stopped = λ some. stop_stays m o deed (h.stopped some);
}

-- the stop word is 0 or 1
pub stop_after_step : (m : Memory) (o : SeatState) (deed : Deed) → m Stop ≤ 1 → memory_after m o deed Stop ≤ 1
stop_after_step m o Stopped h = let one : 1 ≤ 1 = omega arith in one
stop_after_step m o _ h = h
