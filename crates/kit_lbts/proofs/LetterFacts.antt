-- The rule of the buffers after a step on another word.
use Rattle.std.proofs.Common.{◌≡◌, ◌≢◌, ℕ, ◌<◌, ap, ◌∙◌}
use Rattle.std.proofs.Common.{List, length, Option, Some, None, get_or-set_same, get_or-set_other}
use Rattle.std.specs.Prelude.{unwrap_or, slice_index_or, slice_set}
use Rattle.kit_rules.specs.Step.{no_message}
use Rattle.kit_ground.specs.declared.address.Address.TheVariants.{Count, Part}
use Rattle.kit_ground.specs.declared.place.Place.{Place}
use Rattle.kit_ground.specs.Memory.{Memory}
use Rattle.kit_lbts.specs.declared.view.Filled.{Filled}
use Rattle.kit_lbts.specs.declared.view.LbtsView.{LbtsView}
use Rattle.kit_lbts.specs.Letters.{IsLetter, Letters, letter_in}

pub letter_still : (m now : Memory) (j k : ℕ) (f : Filled) → ((x : ℕ) → now (Part j k x) ≡ m (Part j k x)) → IsLetter m j k f → IsLetter now j k f
letter_still m now j k f words h = record { head = words 0 ∙ h.head; body = words 1 ∙ h.body; fits = h.fits; value = h.value; sender = h.sender }

-- where the step counts no reader anew, and leaves the words of counted buffers
pub letters_aside : (m now : Memory) (j : ℕ) (p : Place LbtsView) → ((k : ℕ) → k < p.own.buffers → 0 < now (Count j k) → 0 < m (Count j k))
    → ((k x : ℕ) → k < p.own.buffers → 0 < m (Count j k) → now (Part j k x) ≡ m (Part j k x)) → Letters m j p → Letters now j p
letters_aside m now j p counts words h = record {
  sized = h.sized;
  counted = λ k lk on. letter_still m now j k (letter_in p.client k) (λ x. words k x lk (counts k lk on)) (h.counted k lk (counts k lk on));
  sending = h.sending;
  others = h.others;
}

-- the letters of a list of what buffers were charged with
abbrev pub letter_from : List (Option Filled) → ℕ → Filled
letter_from fs k = unwrap_or (slice_index_or fs k None) (record { message = no_message; colour = 0 })

pub letter_put : (fs : List (Option Filled)) (k : ℕ) (f : Filled) → k < length fs → letter_from (slice_set fs k (Some f)) k ≡ f
letter_put fs k f lk = ap (λ (o : Option Filled). unwrap_or o (record { message = no_message; colour = 0 })) (get_or-set_same fs k (Some f) None lk)

pub letter_else : (fs : List (Option Filled)) (k x : ℕ) (o : Option Filled) → x ≢ k → letter_from (slice_set fs k o) x ≡ letter_from fs x
letter_else fs k x o other = ap (λ (o : Option Filled). unwrap_or o (record { message = no_message; colour = 0 })) (get_or-set_other fs k x o None other)
