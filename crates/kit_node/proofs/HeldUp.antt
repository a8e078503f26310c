-- Whether each own buffer has a message that is timed after the federate's time.
use Rattle.std.proofs.Common.{◌≡◌, ℕ, ◌<◌, List, length, map, get_or, Option, Some, None, refl, ap, ◌∙◌, arith}
use Rattle.std.specs.Prelude.{All, unwrap_or}
use Rattle.std.proofs.lemmas.List.{get_or-map, length-map}
use Rattle.std.proofs.lemmas.List.Elements.{All-from_get_or, All-get_or}
use Rattle.kit_ground.specs.declared.place.Place.{Place}
use Rattle.kit_rules.specs.Step.{no_message}
use Rattle.kit_lbts.specs.declared.view.Filled.{Filled}
use Rattle.kit_lbts.specs.declared.view.LbtsView.{LbtsView}
use Rattle.kit_lbts.specs.Letters.{letter_in}
use Rattle.kit_lbts.specs.SeatLaws.{IsInWorld}
use Rattle.kit_lbts.specs.Views.{filled_in, time_of}
use Rattle.kit_lbts.proofs.SeatFacts.{places_tell}
use Rattle.kit_node.specs.Mirrors.{time_put}
use Rattle.kit_node.specs.Sending.{IsHeldUp}

abbrev P : Type 0
P = Place LbtsView

-- the time that was put in a buffer is that of its letter
time_of_letter : (o : Option Filled) → time_put o ≡ (unwrap_or o (record { message = no_message; colour = 0 })).message.time
time_of_letter None = refl
time_of_letter (Some f) = refl

module _ (p : P) (w : IsInWorld p) (now : ℕ) (put : List ℕ) (time : now ≡ time_of p.client) (is : put ≡ map time_put p.client.filled) where
  long : length put ≡ p.own.buffers
  long = ap length is ∙ (length-map p.client.filled time_put ∙ (places_tell p w).filled)

  put_at : (k : ℕ) → k < p.own.buffers → get_or put k 0 ≡ (letter_in p.client k).message.time
  put_at k inside =
      let filled : length p.client.filled ≡ p.own.buffers = (places_tell p w).filled in
      ap (λ (l : List ℕ). get_or l k 0) is ∙ (get_or-map time_put p.client.filled k None 0 (omega arith) ∙ time_of_letter (filled_in p.client k))

  pub held_up : All (λ (t : ℕ). now < t) put → IsHeldUp p
  held_up all k inside =
      let l = long in
      let at : now < get_or put k 0 = All-get_or (λ (t : ℕ). now < t) put k 0 (omega arith) all in
      let e = put_at k inside in
      let t = time in
      omega arith

  pub not_held_up : IsHeldUp p → All (λ (t : ℕ). now < t) put
  not_held_up held = All-from_get_or (λ (t : ℕ). now < t) put 0 (λ k lt.
      let l = long in
      let inside : k < p.own.buffers = omega arith in
      let h = held k inside in
      let e = put_at k inside in
      let t = time in
      omega arith)
