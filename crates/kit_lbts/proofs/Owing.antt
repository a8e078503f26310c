-- What is still to be posted, where the own buffers keep to whom they are to be posted.
use Rattle.std.proofs.Common.{◌≡◌, ◌≢◌, ℕ, zero, suc, ◌<◌, Bool, cond, List, [], ◌∷◌, length, filter, Option, Some, None, refl, sym, ap, ◌∙◌, get_or-set_same, get_or-set_other}
use mathlib.Core.Logic.{dite}
use native.Mathlib.Decide.{ℕ_discrete}
use Rattle.kit_base.specs.declared.message.Message.{Message}
use Rattle.kit_ground.specs.declared.place.Buffer.{Buffer}
use Rattle.kit_ground.specs.declared.place.SeatBuffers.{SeatBuffers}
use Rattle.kit_ground.specs.Steps.{buffer_of, with_buffer, buffer_after_write, fresh_buffer}
use Rattle.kit_rules.specs.Parts.{Parts}
use Rattle.kit_rules.specs.Delivery.{has_bit}
use Rattle.kit_lbts.specs.Views.{has_receiver}
use Rattle.kit_lbts.specs.Seats.{is_owed, left_of}

-- two stocks whose buffers are to be posted to the same
abbrev pub OweTheSame : SeatBuffers → SeatBuffers → Type 0
OweTheSame s t = (k : ℕ) → (buffer_of s k).to_post ≡ (buffer_of t k).to_post

owed_same : (sending : Option ℕ) (s t : SeatBuffers) (f : Parts) (j : ℕ) (m : Message) → OweTheSame s t → is_owed sending s f j m ≡ is_owed sending t f j m
owed_same None s t f j m h = refl
owed_same (Some k) s t f j m h = ap (λ (mask : ℕ). has_bit mask j) (h k)

pub left_same : (sending : Option ℕ) (s t : SeatBuffers) (f : Parts) (j : ℕ) (ms : List Message) → OweTheSame s t → left_of sending s f j ms ≡ left_of sending t f j ms
left_same sending s t f j [] h = refl
left_same sending s t f j (m ∷ ms) h = ap (λ (b : Bool). cond b (m ∷ filter (has_receiver f j) ms) (filter (has_receiver f j) ms)) (owed_same sending s t f j m h)

-- a buffer that is changed
pub buffer_here : (s : SeatBuffers) (k : ℕ) (c : Buffer) → k < length s.buffers → buffer_of (with_buffer k c s) k ≡ c
buffer_here s k c lk = get_or-set_same s.buffers k c fresh_buffer lk

pub buffer_else : (s : SeatBuffers) (k : ℕ) (c : Buffer) (x : ℕ) → x ≢ k → buffer_of (with_buffer k c s) x ≡ buffer_of s x
buffer_else s k c x other = get_or-set_other s.buffers k x c fresh_buffer other

pub owes_still : (s : SeatBuffers) (k : ℕ) (c : Buffer) → k < length s.buffers → c.to_post ≡ (buffer_of s k).to_post → OweTheSame (with_buffer k c s) s
owes_still s k c lk same x = dite (ℕ_discrete x k)
    (λ here. ap (λ (y : ℕ). (buffer_of (with_buffer k c s) y).to_post) here ∙ (ap (λ (d : Buffer). d.to_post) (buffer_here s k c lk) ∙ (same ∙ ap (λ (y : ℕ). (buffer_of s y).to_post) (sym here))))
    (λ other. ap (λ (d : Buffer). d.to_post) (buffer_else s k c x other))

pub written_owes : (part word : ℕ) (c : Buffer) → (buffer_after_write part word c).to_post ≡ c.to_post
written_owes zero word c = refl
written_owes (suc part) word c = refl
