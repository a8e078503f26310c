-- A guest's look keeps the rule of its table, and leaves the words.
use Rattle.std.proofs.Common.{◌≡◌, ℕ, ◌+◌, ◌-◌, ◌≤◌, true, List, ◌∷◌, ◌++◌, length, set, refl, sym, ap, ◌∙◌, subst, ⊎_elim, arith}
use Rattle.std.proofs.lemmas.Bool.{lt-ltb}
use Rattle.std.specs.Cmp.Derive.{both_true}
use Rattle.std.specs.Prelude.{slice_index, slice_set}
use mathlib.Core.Option.{some}
use lib.ListN.{get_elem?}
use Rattle.atomic_table.specs.Table.{State, Me, keeps, Allows}
use Rattle.atomic_table.proofs.Lists.{at_set}
use Rattle.kit_ground.specs.declared.address.Address.{Address}
use Rattle.kit_ground.specs.declared.place.Deed.{Deed}
use Rattle.kit_ground.specs.declared.place.Deed.TheVariants.{Looked, Published, Stopped, SawStop, SawFree, Wrote, Charged, PostedTo, Collected, ReadPart, Released}
use Rattle.kit_ground.specs.declared.place.Place.{Place}
use Rattle.kit_ground.specs.declared.place.SeatState.{SeatState}
use Rattle.kit_ground.specs.Layout.{index_of, is_there, memory_of}
use Rattle.kit_ground.specs.Memory.{Memory}
use Rattle.kit_ground.specs.Rules.{Rule}
use Rattle.kit_ground.specs.Steps.{Allowed, place_after, address_of}
use Rattle.kit_pool.specs.Seating.{DeskIsOwned, HoldsOfOwnPlace, IsGuestBeside, TableHolds}
use Rattle.kit_pool.specs.Watching.{GuestPlans, IsLook, LookIsTold}
use Rattle.kit_ground.specs.Guests.{WasSeen}
use Rattle.kit_pool.proofs.Behind.{at_behind, set_behind, set_same}
use Rattle.kit_pool.proofs.Holding.{held_after}
use Rattle.kit_pool.proofs.SeatSteps.{word_found}

-- what a look is at is there
pub look_there : (o : SeatState) (deed : Deed) (old : ℕ) → IsLook deed → Allowed o deed old → is_there o.federates o.buffers (address_of o deed) ≡ true
look_there o (Looked r word) old looks h = both_true (lt-ltb _ _ h.0.0) (lt-ltb _ _ h.0.1)
look_there o (SawStop set) old looks h = refl
look_there o (Published r word) old looks h = absurd looks
look_there o Stopped old looks h = absurd looks
look_there o (SawFree k free) old looks h = absurd looks
look_there o (Wrote k p word) old looks h = absurd looks
look_there o (Charged k mask) old looks h = absurd looks
look_there o (PostedTo k j) old looks h = absurd looks
look_there o (Collected i w mail) old looks h = absurd looks
look_there o (ReadPart i k p word) old looks h = absurd looks
look_there o (Released i k) old looks h = absurd looks

module _ {V : Type 0} (rule : Rule V) (n b : ℕ) (front : List ℕ) where
  abbrev Ps : Type 0
  Ps = List (Place V)

  module _ (ws : List ℕ) (desks : List Ps) (id : ℕ) (g : Place V) (gs : Ps) (r : TableHolds rule n b front ws desks) (at : get_elem? desks id ≡ some (g ∷ gs)) (behind : n ≤ g.own.number)
      (next : Deed → Place V → V) (i : ℕ) (a : Address) (place : length front + i ≡ index_of n b a) (deed : ℕ → Deed) (plan : GuestPlans rule next g a deed) where
    abbrev whole : List ℕ
    whole = front ++ ws

    abbrev memory : Memory
    memory = memory_of (length r.federates) b whole

    abbrev found : ℕ
    found = slice_index ws i

    -- which of the guests it is
    abbrev k : ℕ
    k = g.own.number - n

    number : length r.federates + k ≡ g.own.number
    number = let many = r.many in omega (arith, many, behind)

    mine : get_elem? r.guests k ≡ some g
    mine = sym (at_behind r.federates r.guests k) ∙ (ap (get_elem? (r.federates ++ r.guests)) number ∙ (r.held id (g ∷ gs) at).0)

    fits : IsGuestBeside rule b memory r.federates g
    fits = r.watched k g mine

    there : is_there (length r.federates) b a ≡ true
    there = subst (λ (x : (ℕ × ℕ) × Address). is_there x.0.0 x.0.1 x.1 ≡ true) (λ t. ((fits.world.federates t, fits.buffers t), sym (plan.address 0) t)) (look_there g.own (deed 0) 0 (plan.looks 0) (plan.allowed 0))

    finds_it : memory a ≡ found
    finds_it = word_found (length r.federates) n b front ws i a r.many place there

    seen_here : WasSeen rule g a found
    seen_here = (memory, r.federates, fits.world, finds_it)

    abbrev after : Place V
    after = place_after next (deed found) g

    sees_after : rule.sees memory r.federates after
    sees_after = subst (λ (y : ℕ). rule.sees memory r.federates (place_after next (deed y) g)) finds_it (plan.keeps memory r.federates fits.world)

    fits_after : IsGuestBeside rule b memory r.federates after
    fits_after = record {
      buffers = fits.buffers;
      world = record { floor = fits.world.floor; client = fits.world.client; federates = fits.world.federates; number = fits.world.number; sees = sees_after };
    }

    watched_after : (j : ℕ) (h : Place V) → get_elem? (set r.guests k after) j ≡ some h → IsGuestBeside rule b memory r.federates h
    watched_after j h e = ⊎_elim
        (λ t. subst (IsGuestBeside rule b memory r.federates) t.1 fits_after)
        (λ t. r.watched j h t.1)
        (at_set r.guests k j after h e)

    changed : set (r.federates ++ r.guests) g.own.number after ≡ r.federates ++ set r.guests k after
    changed = ap (λ (j : ℕ). set (r.federates ++ r.guests) j after) (sym number) ∙ set_behind r.federates r.guests k after

    pub seated_after : TableHolds rule n b front (slice_set ws i found) (slice_set desks id (after ∷ gs))
    seated_after = subst (λ (l : List ℕ). TableHolds rule n b front l (slice_set desks id (after ∷ gs))) (sym (set_same ws i)) record {
      federates = r.federates;
      guests = set r.guests k after;
      owner = r.owner;
      many = r.many;
      ruled = r.ruled;
      watched = watched_after;
      held = λ seat desk e. subst (λ (l : Ps). DeskIsOwned l r.owner seat desk) changed (held_after (r.federates ++ r.guests) r.owner desks id g gs next (deed found) r.held at seat desk e);
    }

  -- what a guest's look asks of the table, from what it asks of the seat
  pub sees : {S : Type 0} (next : Deed → Place V → V) (slots id : ℕ) (me : Me S Ps) (g : Place V) (gs : Ps) → me.0 ≡ g ∷ gs → n ≤ g.own.number → (i : ℕ) (a : Address) → length front + i ≡ index_of n b a
      → (deed : ℕ → Deed) → GuestPlans rule next g a deed
      → Allows (λ (s : State S Ps). TableHolds rule n b front s.words s.views) slots id me i (λ x. x) (λ x after. LookIsTold rule next deed me x after)
  sees next slots id me g gs is behind i a place deed plan s r _ at _ =
      let at' : get_elem? s.views id ≡ some (g ∷ gs) = at ∙ ap (λ (d : Ps). some d) is in
      let x : ℕ = slice_index s.words i in
      let told = seen_here s.words s.views id g gs r at' behind next i a place deed plan in (
        place_after next (deed x) g ∷ gs,
        keeps,
        tt,
        seated_after s.words s.views id g gs r at' behind next i a place deed plan,
        subst (HoldsOfOwnPlace (λ q qs. (place_after next (deed x) g ∷ gs ≡ place_after next (deed x) q ∷ qs) × (me.1 ≡ me.1) × WasSeen rule q (address_of q.own (deed x)) x)) (sym is)
            (refl, refl, subst (λ (y : Address). WasSeen rule g y x) (plan.address x) told),
      )
