-- A step of a plain floor: it follows from the law of a step over a list of words.
use Rattle.std.proofs.Common.{◌≡◌, ℕ, ◌<◌, ◌≤◌, arith, true, length, refl, sym, ap, ◌∙◌, subst}
use Rattle.std.specs.Prelude.{slice_set}
use mathlib.Core.Option.{some}
use lib.ListN.{get_elem?}
use Rattle.kit_ground.specs.declared.address.Address.{Address}
use Rattle.kit_ground.specs.declared.place.Deed.{Deed}
use Rattle.kit_ground.specs.declared.place.Deed.TheVariants.{Looked, Published, Stopped, SawStop, SawFree, Wrote, Charged, PostedTo, Collected, ReadPart, Released}
use Rattle.kit_ground.specs.declared.place.Place.{Place}
use Rattle.kit_ground.specs.declared.place.SeatState.{SeatState}
use Rattle.kit_ground.specs.Memory.{with_word}
use Rattle.kit_ground.specs.Layout.{is_there, index_of, memory_of}
use Rattle.kit_ground.specs.Steps.{Allowed, HasMailWord, address_of, becomes, place_after, with_found}
use Rattle.kit_ground.specs.Rules.{Rule, Keeps, WasFound, own_at_first}
use Rattle.kit_ground.specs.Words.{RuledWords}
use Rattle.kit_ground.specs.Floors.{Floor, RulesHold, memory, place_of, floor_after}
use Rattle.kit_ground.specs.Coming.{AreSteps, IsOneStep}
use Rattle.kit_ground.specs.Laws.{IsStepOn, words_after_step}
use Rattle.kit_ground.proofs.Changing.{length-changed, changed_set, changed_here, changed_else}
use Rattle.kit_ground.proofs.LawSteps.{keeps_both}
use Rattle.kit_ground.proofs.Lists.{at_or}
use Rattle.kit_ground.proofs.Layouts.{memory_set}
use Rattle.kit_ground.proofs.WordSteps as words

-- which word a step is on does not depend on the word that it finds
pub found_there : (o : SeatState) (about : Deed) (found : ℕ) → address_of o (with_found about found) ≡ address_of o about
found_there o (Looked r word) found = refl
found_there o (Published r word) found = refl
found_there o Stopped found = refl
found_there o (SawStop set) found = refl
found_there o (SawFree k free) found = refl
found_there o (Wrote k p word) found = refl
found_there o (Charged k mask) found = refl
found_there o (PostedTo k j) found = refl
found_there o (Collected i w mail) found = refl
found_there o (ReadPart i k p word) found = refl
found_there o (Released i k) found = refl

-- what is posted has a mail word
pub mail_word_is : (o : SeatState) (about : Deed) (found : ℕ) → o.buffers ≤ 1024 → Allowed o (with_found about found) found → HasMailWord about
mail_word_is o (PostedTo k j) found small allowed = let lt = allowed.0 in omega arith
mail_word_is o (Looked r word) found small allowed = tt
mail_word_is o (Published r word) found small allowed = tt
mail_word_is o Stopped found small allowed = tt
mail_word_is o (SawStop set) found small allowed = tt
mail_word_is o (SawFree k free) found small allowed = tt
mail_word_is o (Wrote k p word) found small allowed = tt
mail_word_is o (Charged k mask) found small allowed = tt
mail_word_is o (Collected i w mail) found small allowed = tt
mail_word_is o (ReadPart i k p word) found small allowed = tt
mail_word_is o (Released i k) found small allowed = tt

module _ {O V : Type 0} (rule : Rule V) (first : O → ℕ → V) where
  abbrev F : Type 0
  F = Floor O V

  pub here : (f : F) → RulesHold rule f → get_elem? f.places f.seated ≡ some (place_of first f)
  here f r = at_or f.places f.seated (record { own = own_at_first 0 0 0; client = first f.opening 0 }) r.seat

  pub number : (f : F) → RulesHold rule f → (place_of first f).own.number ≡ f.seated
  number f r = words.number rule f.buffers f.words f.places r.words f.seated (place_of first f) (here f r)

  pub federates : (f : F) → RulesHold rule f → (place_of first f).own.federates ≡ length f.places
  federates f r = words.federates rule f.buffers f.words f.places r.words f.seated (place_of first f) (here f r)

  pub buffers : (f : F) → RulesHold rule f → (place_of first f).own.buffers ≡ f.buffers
  buffers f r = words.buffers rule f.buffers f.words f.places r.words f.seated (place_of first f) (here f r)

  pub posted_in_pool : (f : F) → RulesHold rule f → (about : Deed) → ((found : ℕ) → Allowed (place_of first f).own (with_found about found) found) → HasMailWord about
  posted_in_pool f r about allowed =
      let is = buffers f r in let small = r.words.floor.small in
      mail_word_is (place_of first f).own about 0 (omega arith) (allowed 0)

  module _ (f : F) (r : RulesHold rule f) (next : Deed → Place V → V) (about : Deed) where
    abbrev pub p : Place V
    p = place_of first f

    abbrev pub a : Address
    a = address_of p.own about

    abbrev pub found : ℕ
    found = memory f a

    abbrev pub deed : Deed
    deed = with_found about found

    -- the floor after the step
    abbrev pub after : F
    after = floor_after (index_of (length f.places) f.buffers a) (becomes deed found) (place_after next deed) f

    -- what the code makes of the floor, step by step, is that floor
    pub made_so : (address : Address) (finds at word : ℕ) (did : Deed) → address ≡ a → finds ≡ memory f address → did ≡ with_found about finds
        → at ≡ index_of (length f.places) f.buffers address → word ≡ becomes did finds → floor_after at word (place_after next did) f ≡ after
    made_so address finds at word did is found_is did_is at_is word_is =
        let finds_is : finds ≡ found = found_is ∙ ap (memory f) is in
        let deed_is : did ≡ deed = did_is ∙ ap (with_found about) finds_is in
        (λ i. floor_after ((at_is ∙ ap (index_of (length f.places) f.buffers) is) i) ((word_is ∙ (λ t. becomes (deed_is t) (finds_is t))) i) (place_after next (deed_is i)) f)

    -- what a step tells: there was this world
    pub told : WasFound rule p a found
    told = (memory f, f.places, words.world rule f.buffers f.words f.places r.words f.seated p (here f r), refl)

    pub place_is_after : place_of first after ≡ place_after next deed p
    place_is_after = changed_here (place_after next deed) f.seated f.places (record { own = own_at_first 0 0 0; client = first f.opening 0 }) r.seat

    many : length after.places ≡ length f.places
    many = length-changed (place_after next deed) f.seated f.places

    pub came_step : AreSteps first f after
    came_step = record {
      opening = refl;
      buffers = refl;
      seated = refl;
      seat = record { number = ap (λ (q : Place V). q.own.number) place_is_after; federates = ap (λ (q : Place V). q.own.federates) place_is_after; buffers = ap (λ (q : Place V). q.own.buffers) place_is_after };
      many = many;
      others = λ k other. changed_else (place_after next deed) f.seated f.places k other;
      made = 1;
      steps = refl;
      counted = ap (λ (q : Place V). q.own.steps) place_is_after;
    }

    module _ (allowed : (word : ℕ) → Allowed p.own (with_found about word) word) where
      -- the word of the step is there
      pub there : is_there (length f.places) f.buffers a ≡ true
      there = subst (λ (x : Address). is_there (length f.places) f.buffers x ≡ true) (found_there p.own about found)
          (words.there rule f.buffers f.words f.places r.words f.seated p (here f r) deed found (allowed found))

      pub did_step : IsOneStep first f deed after
      did_step = record {
        step = record {
          allowed = subst (λ (x : Address). Allowed p.own deed (memory f x)) (sym (found_there p.own about found)) (allowed found);
          stores =
              ap (λ (k : ℕ). memory_of k f.buffers after.words) many
              ∙ (memory_set (length f.places) f.buffers f.words a (becomes deed found) there r.words.sized
              ∙ (λ i. with_word (memory f) (sym (found_there p.own about found) i) (becomes deed (memory f (sym (found_there p.own about found) i)))));
        };
        steps = refl;
      }

      -- both rules hold after a step that is allowed and that the client keeps its rule by in every world
      pub ruled_after : Keeps rule next p a (with_found about) → RulesHold rule after
      ruled_after keeps =
          let set : slice_set f.places f.seated (place_after next deed p) ≡ after.places = sym (changed_set (place_after next deed) f.seated f.places (record { own = own_at_first 0 0 0; client = first f.opening 0 })) in
          let step : IsStepOn rule f.buffers f.words f.places f.seated p a deed found = record { rules = r.words; here = here f r; found_is = refl; address_is = sym (found_there p.own about found); allowed = allowed found } in record {
            words = subst (RuledWords rule f.buffers (words_after_step f.buffers f.words f.places a deed found)) set (keeps_both rule f.buffers f.words f.places f.seated p next a (with_found about) found step keeps);
            seat = subst (λ (k : ℕ). f.seated < k) (sym many) r.seat;
          }
