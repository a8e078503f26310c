-- A step that is allowed, and keeps the client's rule, leads from a world to a world.
use Rattle.std.proofs.Common.{◌≡◌, ℕ, List, ap, sym, subst, ◌∙◌}
use Rattle.std.specs.Prelude.{slice_set}
use Rattle.atomic_table.proofs.Lists.{set_here}
use Rattle.kit_ground.specs.declared.address.Address.{Address}
use Rattle.kit_ground.specs.declared.place.Deed.{Deed}
use Rattle.kit_ground.specs.declared.place.Place.{Place}
use Rattle.kit_ground.specs.Memory.{Memory, with_word}
use Rattle.kit_ground.specs.Rules.{Keeps, Rule, RuleStays, WasFound, World}
use Rattle.kit_ground.specs.Steps.{Allowed, address_of, becomes, place_after}
use Rattle.kit_ground.proofs.FloorSteps.{floored_after}
use Rattle.kit_ground.proofs.Lists.{at_inside}

module _ {V : Type 0} (rule : Rule V) (next : Deed → Place V → V) (p : Place V) where
  pub world_after : (m : Memory) (places : List (Place V)) (deed : Deed) → World rule p m places → Allowed p.own deed (m (address_of p.own deed))
      → RuleStays rule m places (with_word m (address_of p.own deed) (becomes deed (m (address_of p.own deed)))) (slice_set places p.own.number (place_after next deed p))
      → World rule (place_after next deed p) (with_word m (address_of p.own deed) (becomes deed (m (address_of p.own deed)))) (slice_set places p.own.number (place_after next deed p))
  world_after m places deed w allowed stays = record {
    floor = floored_after p.own.buffers m places p.own.number p next deed w.floor w.here allowed;
    client = stays.client;
    here = set_here places p.own.number (place_after next deed p) (at_inside places p.own.number p w.here);
  }

  -- what the step is may depend on the word that it finds: there is a world after it in which the seat has its place
  pub goes_on : (a : Address) (deed : ℕ → Deed) (word : ℕ) → a ≡ address_of p.own (deed word) → Allowed p.own (deed word) word
      → Keeps rule next p a deed → WasFound rule p a word
      → (m : Memory) × (places : List (Place V)) × World rule (place_after next (deed word) p) m places
  goes_on a deed word at allowed keeps (m, places, w, found) =
      let d : Deed = deed word in
      let here : m (address_of p.own d) ≡ word = ap m (sym at) ∙ found in
      let stays : RuleStays rule m places (with_word m a (becomes d (m a))) (slice_set places p.own.number (place_after next d p)) =
      subst (λ (x : ℕ). RuleStays rule m places (with_word m a (becomes (deed x) (m a))) (slice_set places p.own.number (place_after next (deed x) p))) found (keeps m places w) in (
        with_word m (address_of p.own d) (becomes d (m (address_of p.own d))),
        slice_set places p.own.number (place_after next d p),
        world_after m places d w (subst (Allowed p.own d) (sym here) allowed)
            (subst (λ (x : Address). RuleStays rule m places (with_word m x (becomes d (m x))) (slice_set places p.own.number (place_after next d p))) at stays),
      )
