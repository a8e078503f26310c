-- A step over a list of words: the one law that each floor cites.
use Rattle.std.proofs.Common.{◌≡◌, ℕ, ◌<◌, true, List, length, refl, sym, ap, ◌∙◌, subst, arith}
use Rattle.std.proofs.lemmas.Bool.{lt-ltb}
use Rattle.std.proofs.lemmas.List.{length-set}
use Rattle.std.specs.Cmp.Derive.{both_true}
use Rattle.std.specs.Prelude.{slice_set}
use mathlib.Core.Option.{some}
use lib.ListN.{get_elem?}
use Rattle.kit_ground.specs.declared.address.Address.{Address}
use Rattle.kit_ground.specs.declared.place.Deed.{Deed}
use Rattle.kit_ground.specs.declared.place.Deed.TheVariants.{Looked, Published, Stopped, SawStop, SawFree, Wrote, Charged, PostedTo, Collected, ReadPart, Released}
use Rattle.kit_ground.specs.declared.place.SeatState.{SeatState}
use Rattle.kit_ground.specs.declared.place.Place.{Place}
use Rattle.kit_ground.specs.Memory.{Memory, with_word}
use Rattle.kit_ground.specs.Layout.{size_of, is_there, index_of, memory_of}
use Rattle.kit_ground.specs.Steps.{place_after, address_of, becomes, Allowed}
use Rattle.kit_ground.specs.Rules.{Rule, FloorHolds, World, Keeps}
use Rattle.kit_ground.specs.Words.{RuledWords}
use Rattle.kit_ground.proofs.Layouts.{memory_set}
use Rattle.kit_ground.proofs.Lists.{at_inside}
use Rattle.kit_ground.proofs.MailWords.{word_there}
use Rattle.kit_ground.proofs.FloorSteps.{floored_after}

pub own_there : (o : SeatState) (deed : Deed) (old : ℕ) → o.number < o.federates → Allowed o deed old → is_there o.federates o.buffers (address_of o deed) ≡ true
own_there o (Looked r word) old me h = both_true (lt-ltb _ _ h.0.0) (lt-ltb _ _ h.0.1)
own_there o (Published r word) old me h = both_true (lt-ltb _ _ (let e = h.0 in omega arith)) (lt-ltb _ _ h.1)
own_there o Stopped old me h = refl
own_there o (SawStop set) old me h = refl
own_there o (SawFree k free) old me h = both_true (lt-ltb _ _ me) (lt-ltb _ _ h.0)
own_there o (Wrote k p word) old me h = both_true (both_true (lt-ltb _ _ me) (lt-ltb _ _ h.0)) (lt-ltb _ _ h.1)
own_there o (Charged k mask) old me h = both_true (lt-ltb _ _ me) (lt-ltb _ _ h.0)
own_there o (PostedTo k j) old me h = both_true (both_true (lt-ltb _ _ h.1) (lt-ltb _ _ me)) (lt-ltb _ _ (word_there o.buffers k h.0))
own_there o (Collected i w mail) old me h = both_true (both_true (lt-ltb _ _ me) (lt-ltb _ _ h.0)) (lt-ltb _ _ h.2)
own_there o (ReadPart i k p word) old me h = both_true (both_true (lt-ltb _ _ h.0) (lt-ltb _ _ h.1)) (lt-ltb _ _ h.2)
own_there o (Released i k) old me h = both_true (lt-ltb _ _ h.0) (lt-ltb _ _ h.1)

module _ {V : Type 0} (rule : Rule V) (b : ℕ) (words : List ℕ) (places : List (Place V)) (ruled : RuledWords rule b words places) (me : ℕ) (p : Place V) (at : get_elem? places me ≡ some p) where
  n : ℕ
  n = length places

  abbrev memory : Memory
  memory = memory_of (length places) b words

  pub number : p.own.number ≡ me
  number = (ruled.floor.each me p at).number

  pub federates : p.own.federates ≡ length places
  federates = (ruled.floor.each me p at).federates

  pub buffers : p.own.buffers ≡ b
  buffers = (ruled.floor.each me p at).buffers

  -- the world in which the seat makes its step
  pub world : World rule p memory places
  world = record {
    floor = subst (λ (x : ℕ). FloorHolds x memory places) (sym buffers) ruled.floor;
    client = ruled.client;
    here = subst (λ (x : ℕ). get_elem? places x ≡ some p) (sym number) at;
  }

  -- the word of a step that is allowed is there
  pub there : (deed : Deed) (old : ℕ) → Allowed p.own deed old → is_there (length places) b (address_of p.own deed) ≡ true
  there deed old allowed =
      let inside = at_inside places me p at in let is = number in let many = federates in
      subst (λ (x : ℕ × ℕ). is_there x.0 x.1 (address_of p.own deed) ≡ true) (λ i. (federates i, buffers i)) (own_there p.own deed old (omega arith) allowed)

  -- a step that is allowed, and after which the client's rule holds
  pub words_after : (next : Deed → Place V → V) (deed : Deed) → Allowed p.own deed (memory (address_of p.own deed))
      → rule.holds (with_word memory (address_of p.own deed) (becomes deed (memory (address_of p.own deed)))) (slice_set places me (place_after next deed p))
      → RuledWords rule b (slice_set words (index_of (length places) b (address_of p.own deed)) (becomes deed (memory (address_of p.own deed)))) (slice_set places me (place_after next deed p))
  words_after next deed allowed client =
      let a = address_of p.own deed in
      let word : ℕ = becomes deed (memory a) in
      let i : ℕ = index_of (length places) b a in
      let new = slice_set places me (place_after next deed p) in
      let many : length new ≡ length places = length-set places me (place_after next deed p) in
      let stores : with_word memory a word ≡ memory_of (length new) b (slice_set words i word) =
      sym (memory_set (length places) b words a word (there deed (memory a) allowed) ruled.sized) ∙ ap (λ (k : ℕ). memory_of k b (slice_set words i word)) (sym many) in
      record {
        sized = length-set words i word ∙ (ruled.sized ∙ ap (λ (k : ℕ). size_of k b) (sym many));
        floor = subst (λ (m : Memory). FloorHolds b m new) stores (floored_after b memory places me p next deed ruled.floor at allowed);
        client = subst (λ (m : Memory). rule.holds m new) stores client;
      }

  -- a step that is allowed and that the client keeps its rule by, in every world
  pub words_step : (next : Deed → Place V → V) (a : Address) (deed : ℕ → Deed) → a ≡ address_of p.own (deed (memory a)) → Allowed p.own (deed (memory a)) (memory a) → Keeps rule next p a deed
      → RuledWords rule b (slice_set words (index_of (length places) b a) (becomes (deed (memory a)) (memory a))) (slice_set places me (place_after next (deed (memory a)) p))
  words_step next a deed is allowed keeps =
      let d : Deed = deed (memory a) in
      let kept = (keeps memory places world).client in
      let client = subst (λ (x : Address × ℕ). rule.holds (with_word memory x.0 (becomes d (memory x.0))) (slice_set places x.1 (place_after next d p))) (λ i. (is i, number i)) kept in
      let made = words_after next d (subst (λ (x : Address). Allowed p.own d (memory x)) is allowed) client in
      subst (λ (x : Address). RuledWords rule b (slice_set words (index_of (length places) b x) (becomes d (memory x))) (slice_set places me (place_after next d p))) (sym is) made

  -- and by which each guest keeps what the rule asks of it
  pub guests_step : (next : Deed → Place V → V) (a : Address) (deed : ℕ → Deed) → a ≡ address_of p.own (deed (memory a)) → Allowed p.own (deed (memory a)) (memory a) → Keeps rule next p a deed
      → (g : Place V) → rule.sees memory places g
      → rule.sees (memory_of (length places) b (slice_set words (index_of (length places) b a) (becomes (deed (memory a)) (memory a)))) (slice_set places me (place_after next (deed (memory a)) p)) g
  guests_step next a deed is allowed keeps g h =
      let d : Deed = deed (memory a) in
      let here : is_there (length places) b a ≡ true = subst (λ (x : Address). is_there (length places) b x ≡ true) (sym is) (there d (memory a) allowed) in
      let stores = memory_set (length places) b words a (becomes d (memory a)) here ruled.sized in
      subst (λ (x : Memory × ℕ). rule.sees x.0 (slice_set places x.1 (place_after next d p)) g) (λ i. (sym stores i, number i)) ((keeps memory places world).guests g h)
