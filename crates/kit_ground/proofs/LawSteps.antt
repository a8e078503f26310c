-- The laws of a step over a list of words, with the word that was found by its name.
use Rattle.std.proofs.Common.{◌≡◌, ℕ, List, length, sym, ap, ◌∙◌, subst}
use Rattle.std.specs.Prelude.{slice_set}
use Rattle.kit_ground.specs.declared.address.Address.{Address}
use Rattle.kit_ground.specs.declared.place.Deed.{Deed}
use Rattle.kit_ground.specs.declared.place.Place.{Place}
use Rattle.kit_ground.specs.Laws.{IsStepOn, StepsKeepBothRules, StepsKeepGuests, words_after_step}
use Rattle.kit_ground.specs.Layout.{memory_of}
use Rattle.kit_ground.specs.Rules.{Rule}
use Rattle.kit_ground.specs.Steps.{Allowed, place_after, address_of}
use Rattle.kit_ground.specs.Words.{RuledWords}
use Rattle.kit_ground.proofs.WordSteps.{words_step, guests_step}

module _ {V : Type 0} (rule : Rule V) where
  module _ (b : ℕ) (words : List ℕ) (places : List (Place V)) (me : ℕ) (p : Place V) (next : Deed → Place V → V) (a : Address) (deed : ℕ → Deed) (found : ℕ) (s : IsStepOn rule b words places me p a (deed found) found) where
    address : a ≡ address_of p.own (deed (memory_of (length places) b words a))
    address = s.address_is ∙ ap (λ (x : ℕ). address_of p.own (deed x)) s.found_is

    allowed : Allowed p.own (deed (memory_of (length places) b words a)) (memory_of (length places) b words a)
    allowed = subst (λ (x : ℕ). Allowed p.own (deed x) x) s.found_is s.allowed

  pub keeps_both : StepsKeepBothRules rule
  keeps_both b words places me p next a deed found s keeps =
      subst (λ (x : ℕ). RuledWords rule b (words_after_step b words places a (deed x) x) (slice_set places me (place_after next (deed x) p))) (sym s.found_is)
      (words_step rule b words places s.rules me p s.here next a deed (address b words places me p next a deed found s) (allowed b words places me p next a deed found s) keeps)

  pub keeps_guests : StepsKeepGuests rule
  keeps_guests b words places me p next a deed found s keeps guest h =
      subst (λ (x : ℕ). rule.sees (memory_of (length places) b (words_after_step b words places a (deed x) x)) (slice_set places me (place_after next (deed x) p)) guest) (sym s.found_is)
      (guests_step rule b words places s.rules me p s.here next a deed (address b words places me p next a deed found s) (allowed b words places me p next a deed found s) keeps guest h)
