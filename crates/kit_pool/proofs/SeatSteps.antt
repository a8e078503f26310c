-- A step of a federate's seat keeps the rule of its table.
use Rattle.std.proofs.Common.{◌≡◌, ◌==◌, ℕ, ◌+◌, ◌<◌, Bool, true, false, if◌then◌else◌, List, ◌∷◌, ◌++◌, length, refl, sym, ap, ◌∙◌, subst, arith, length-set}
use Rattle.std.proofs.lemmas.Bool.Decides.{nat_tests}
use Rattle.std.specs.Prelude.{MatchBool, slice_index, slice_set}
use mathlib.Core.Option.{some}
use lib.ListN.{get_elem?}
use Rattle.atomic_table.specs.Table.{State, Me, Act, keeps, Allows, Valid, carried_after}
use Rattle.atomic_table.proofs.Lists.{set_again}
use Rattle.kit_ground.specs.declared.address.Address.{Address}
use Rattle.kit_ground.specs.declared.place.Deed.{Deed}
use Rattle.kit_ground.specs.declared.place.Place.{Place}
use Rattle.kit_ground.specs.Layout.{index_of, is_there, memory_of}
use Rattle.kit_ground.specs.Memory.{Memory}
use Rattle.kit_ground.specs.Rules.{FloorHolds, Rule, WasFound}
use Rattle.kit_ground.specs.Steps.{place_after, address_of, becomes}
use Rattle.kit_ground.specs.Words.{RuledWords}
use Rattle.kit_ground.proofs.WordSteps as words
use Rattle.kit_pool.specs.Seating.{FindingIsTold, DeskIsOwned, HoldsOfOwnPlace, IsGuestBeside, Plans, TableHolds, StoreIsTold, ZeroIsTold}
use Rattle.kit_pool.proofs.Behind.{at_before, get_behind, set_before, set_behind, set_same}
use Rattle.kit_pool.proofs.Holding.{held_after}

-- what the table's word i is, where that is the word of an address
pub word_found : (k n b : ℕ) (front ws : List ℕ) (i : ℕ) (a : Address) → k ≡ n → length front + i ≡ index_of n b a → is_there k b a ≡ true → memory_of k b (front ++ ws) a ≡ slice_index ws i
word_found k n b front ws i a many place there =
    let index : index_of k b a ≡ length front + i = ap (λ (x : ℕ). index_of x b a) many ∙ sym place in
    ap (λ t. if t then slice_index (front ++ ws) (index_of k b a) else 0) there ∙ (ap (slice_index (front ++ ws)) index ∙ get_behind front ws i)

module _ {V : Type 0} (rule : Rule V) (n b : ℕ) (front : List ℕ) where
  abbrev Ps : Type 0
  Ps = List (Place V)

  module _ (ws : List ℕ) (desks : List Ps) (id : ℕ) (p : Place V) (ps : Ps) (r : TableHolds rule n b front ws desks) (at : get_elem? desks id ≡ some (p ∷ ps)) (inside : p.own.number < n)
      (next : Deed → Place V → V) (i : ℕ) (a : Address) (place : length front + i ≡ index_of n b a) (f : ℕ → ℕ) (deed : ℕ → Deed) (plan : Plans rule next p a f deed) where
    abbrev whole : List ℕ
    whole = front ++ ws

    abbrev memory : Memory
    memory = memory_of (length r.federates) b whole

    abbrev found : ℕ
    found = slice_index ws i

    among : p.own.number < length r.federates
    among = subst (λ (k : ℕ). p.own.number < k) (sym r.many) inside

    mine : get_elem? r.federates p.own.number ≡ some p
    mine = sym (at_before r.federates r.guests p.own.number among) ∙ (r.held id (p ∷ ps) at).0

    index : index_of (length r.federates) b a ≡ length front + i
    index = ap (λ (k : ℕ). index_of k b a) r.many ∙ sym place

    there : is_there (length r.federates) b a ≡ true
    there = subst (λ (x : Address). is_there (length r.federates) b x ≡ true) (sym (plan.address 0)) (words.there rule b whole r.federates r.ruled p.own.number p mine (deed 0) 0 (plan.allowed 0))

    finds_it : memory a ≡ found
    finds_it = word_found (length r.federates) n b front ws i a r.many place there

    told_here : WasFound rule p a found
    told_here = (memory, r.federates, words.world rule b whole r.federates r.ruled p.own.number p mine, finds_it)

    abbrev after : Place V
    after = place_after next (deed found) p

    abbrev places : Ps
    places = slice_set r.federates p.own.number after

    abbrev stored : List ℕ
    stored = front ++ slice_set ws i (f found)

    -- the word that is stored, in the whole list of words
    moved : slice_set whole (index_of (length r.federates) b a) (becomes (deed found) found) ≡ stored
    moved = (λ t. slice_set whole (index t) (plan.makes found t)) ∙ set_behind front ws i (f found)

    ruled_after : RuledWords rule b stored places
    ruled_after =
        let x : ℕ = memory a in
        let made = words.words_step rule b whole r.federates r.ruled p.own.number p mine next a deed (plan.address x) (plan.allowed x) plan.keeps in
        let here = subst (λ (y : ℕ). RuledWords rule b (slice_set whole (index_of (length r.federates) b a) (becomes (deed y) y)) (slice_set r.federates p.own.number (place_after next (deed y) p))) finds_it made in
        subst (λ (l : List ℕ). RuledWords rule b l places) moved here

    abbrev now : Memory
    now = memory_of (length places) b stored

    sees_after : (g : Place V) → rule.sees memory r.federates g → rule.sees now places g
    sees_after g h =
        let x : ℕ = memory a in
        let many : length r.federates ≡ length places = sym (length-set r.federates p.own.number after) in
        let made = words.guests_step rule b whole r.federates r.ruled p.own.number p mine next a deed (plan.address x) (plan.allowed x) plan.keeps g h in
        let here = subst (λ (y : ℕ). rule.sees (memory_of (length r.federates) b (slice_set whole (index_of (length r.federates) b a) (becomes (deed y) y))) (slice_set r.federates p.own.number (place_after next (deed y) p)) g) finds_it made in
        subst (λ (y : ℕ × List ℕ). rule.sees (memory_of y.0 b y.1) places g) (λ t. (many t, moved t)) here

    watched_after : (k : ℕ) (g : Place V) → get_elem? r.guests k ≡ some g → IsGuestBeside rule b now places g
    watched_after k g e =
        let old = r.watched k g e in
        let many : length places ≡ length r.federates = length-set r.federates p.own.number after in
        record {
          buffers = old.buffers;
          world = record {
            floor = subst (λ (x : ℕ). FloorHolds x now places) (sym old.buffers) ruled_after.floor;
            client = ruled_after.client;
            federates = old.world.federates ∙ sym many;
            number = let behind = old.world.number in omega (arith, many, behind);
            sees = sees_after g old.world.sees;
          };
        }

    pub seated_after : TableHolds rule n b front (slice_set ws i (f found)) (slice_set desks id (after ∷ ps))
    seated_after = record {
      federates = places;
      guests = r.guests;
      owner = r.owner;
      many = length-set r.federates p.own.number after ∙ r.many;
      ruled = ruled_after;
      watched = watched_after;
      held = λ seat desk e. subst (λ (l : Ps). DeskIsOwned l r.owner seat desk) (set_before r.federates r.guests p.own.number after among)
          (held_after (r.federates ++ r.guests) r.owner desks id p ps next (deed found) r.held at seat desk e);
    }

  -- what a step asks of the table, from what it asks of the seat
  allowed : {S : Type 0} (next : Deed → Place V → V) (slots id : ℕ) (me : Me S Ps) (p : Place V) (ps : Ps) → me.0 ≡ p ∷ ps → p.own.number < n → (i : ℕ) (a : Address) → length front + i ≡ index_of n b a
      → (f : ℕ → ℕ) (deed : ℕ → Deed) → Plans rule next p a f deed → (tell : ℕ → Me S Ps → Type 0) → ((x : ℕ) → WasFound rule p a x → tell x (place_after next (deed x) p ∷ ps, me.1))
      → Allows (λ (s : State S Ps). TableHolds rule n b front s.words s.views) slots id me i f tell
  allowed next slots id me p ps is inside i a place f deed plan tell tells s r _ at _ =
      let at' : get_elem? s.views id ≡ some (p ∷ ps) = at ∙ ap (λ (d : Ps). some d) is in
      let x : ℕ = slice_index s.words i in (
        place_after next (deed x) p ∷ ps,
        keeps,
        tt,
        seated_after s.words s.views id p ps r at' inside next i a place f deed plan,
        tells x (told_here s.words s.views id p ps r at' inside next i a place f deed plan),
      )

  -- a step that tells what it found
  pub finds : {S : Type 0} (next : Deed → Place V → V) (slots id : ℕ) (me : Me S Ps) (p : Place V) (ps : Ps) → me.0 ≡ p ∷ ps → p.own.number < n → (i : ℕ) (a : Address) → length front + i ≡ index_of n b a
      → (f : ℕ → ℕ) (deed : ℕ → Deed) → Plans rule next p a f deed
      → Allows (λ (s : State S Ps). TableHolds rule n b front s.words s.views) slots id me i f (λ x after. FindingIsTold rule next deed me x after)
  finds next slots id me p ps is inside i a place f deed plan = allowed next slots id me p ps is inside i a place f deed plan (λ x after. FindingIsTold rule next deed me x after)
      (λ x told. subst (HoldsOfOwnPlace (λ q qs. (place_after next (deed x) p ∷ ps ≡ place_after next (deed x) q ∷ qs) × (me.1 ≡ me.1) × WasFound rule q (address_of q.own (deed x)) x)) (sym is)
      (refl, refl, subst (λ (y : Address). WasFound rule p y x) (plan.address x) told))

  -- a load that is the step where it finds 0, and no step where it finds another word
  pub finds_zero : {S : Type 0} (next : Deed → Place V → V) (slots id : ℕ) (me : Me S Ps) (p : Place V) (ps : Ps) → me.0 ≡ p ∷ ps → p.own.number < n → (i : ℕ) (a : Address) → length front + i ≡ index_of n b a
      → (f : ℕ → ℕ) (deed : ℕ → Deed) → Plans rule next p a f deed → f 0 ≡ 0
      → Allows (λ (s : State S Ps). TableHolds rule n b front s.words s.views) slots id me i (λ x. x) (λ x after. ZeroIsTold rule next deed me x after)
  finds_zero {S} next slots id me p ps is inside i a place f deed plan stays s r homes at small = by_test (slice_index s.words i == 0) refl
    where
      by_test : (t : Bool) → (slice_index s.words i == 0) ≡ t
          → (w : Ps) × (act : Act S) × Valid s.homes me.1 act × TableHolds rule n b front (slice_set s.words i (slice_index s.words i)) (slice_set s.views id w) × ZeroIsTold rule next deed me (slice_index s.words i) (w, carried_after me.1 act)
      by_test true e =
          let x : ℕ = slice_index s.words i in
          let zero : x ≡ 0 = grind (arith, nat_tests) in
          let same : f x ≡ x = ap f zero ∙ (stays ∙ sym zero) in
          let done = finds next slots id me p ps is inside i a place f deed plan s r homes at small in (
            done.0,
            done.1,
            done.2,
            subst (λ (y : ℕ). TableHolds rule n b front (slice_set s.words i y) (slice_set s.views id done.0)) same done.3,
            subst (λ (t : Bool). MatchBool t (FindingIsTold rule next deed me x (done.0, carried_after me.1 done.1)) ((done.0, carried_after me.1 done.1) ≡ me)) (sym e) done.4,
          )
      by_test false e = (
        me.0,
        keeps,
        tt,
        subst (λ (y : List ℕ × List Ps). TableHolds rule n b front y.0 y.1) (λ t. (sym (set_same s.words i) t, sym (set_again s.views id me.0 at) t)) r,
        subst (λ (t : Bool). MatchBool t (FindingIsTold rule next deed me (slice_index s.words i) me) (me ≡ me)) (sym e) refl,
      )

  -- a store of v, whose deed is the same whatever stood there
  pub stores : {S : Type 0} (next : Deed → Place V → V) (slots id : ℕ) (me : Me S Ps) (p : Place V) (ps : Ps) → me.0 ≡ p ∷ ps → p.own.number < n → (i : ℕ) (a : Address) → length front + i ≡ index_of n b a
      → (v : ℕ) (deed : ℕ → Deed) → Plans rule next p a (λ _. v) (λ _. deed v)
      → Allows (λ (s : State S Ps). TableHolds rule n b front s.words s.views) slots id me i (λ _. v) (λ _. StoreIsTold rule next deed me v)
  stores next slots id me p ps is inside i a place v deed plan = allowed next slots id me p ps is inside i a place (λ _. v) (λ _. deed v) plan (λ _. StoreIsTold rule next deed me v)
      (λ x told. subst (HoldsOfOwnPlace (λ q qs. (place_after next (deed v) p ∷ ps ≡ place_after next (deed v) q ∷ qs) × (me.1 ≡ me.1) × ((found : ℕ) × WasFound rule q (address_of q.own (deed v)) found))) (sym is)
      (refl, refl, (x, subst (λ (y : Address). WasFound rule p y x) (plan.address x) told)))
