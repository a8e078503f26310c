-- What the rules of a grant with its deliveries do to a state, and what a grant does to a journal and a queue.
use Rattle.std.proofs.Common.{◌≡◌, ℕ, suc, ◌+◌, ◌<◌, ◌≤◌, ◌==◌, Bool, true, false, cond, ◌&&◌, nat_lt, ⊎_elim, List, [], ◌∷◌, ◌++◌, length, map, filter, get_or, None, refl, sym, ap, ◌∙◌, subst, arith}
use Rattle.std.specs.List.{All, count_by, filter_map}
use Rattle.std.proofs.lemmas.Bool.{cases_Bool, ltb-false}
use Rattle.std.proofs.lemmas.List.{append-nil, append_assoc}
use Rattle.std.proofs.lemmas.List.Elements.{All-head, All-tail}
use Rattle.kit_base.specs.declared.message.Message.{Message}
use Rattle.kit_laws.proofs.Sane as sane
use Rattle.kit_model.specs.declared.journal.JournalEntry.{JournalEntry}
use Rattle.kit_model.specs.declared.journal.JournalEntry.TheVariants.{Delivered}
use Rattle.kit_model.specs.Journals.{IsLawful, now_of}
use Rattle.kit_model.proofs.Lawful.{deliveries_are_lawful, others_keep_the_time}
use Rattle.kit_queue.specs.declared.entry.Entry.{Entry}
use Rattle.kit_rules.specs.declared.scene.State.{State}
use Rattle.kit_rules.specs.declared.table.Trigger.TheVariants.{Got, Grant}
use Rattle.kit_rules.specs.declared.table.Wish.{Wish}
use Rattle.kit_rules.specs.declared.table.Wish.TheVariants as wish
use Rattle.kit_rules.specs.Federation.{IsFederation, IsWish}
use Rattle.kit_rules.specs.Parts.{Parts}
use Rattle.kit_rules.specs.Simulation.{after_block, after_deliveries, request_at}
use Rattle.kit_rules.specs.Step.{no_message, state_after}
use Rattle.kit_rules.proofs.Growth.{AreNumbered}
use Rattle.kit_rules.proofs.Kept.{kept_by_step}
use Rattle.kit_lbts.specs.Views.{delivery_of}
use Rattle.kit_lbts.specs.Seats.{is_buffer, waits_in}
use Rattle.kit_lbts.proofs.Hands.{count_cons}
use Rattle.kit_base.proofs.Counting.{one_false}

-- the deliveries of a grant, and the whole grant, keep a wish fit
wish_by_deliveries : (p : Parts) (i d : ℕ) (s : State) (due : List Message) → IsFederation p → i < length p.federates → IsWish s.wish → IsWish (after_deliveries p i d s due).wish
wish_by_deliveries p i d s [] f lt h = h
wish_by_deliveries p i d s (m ∷ ms) f lt h = wish_by_deliveries p i d (state_after p i (Got m.group) d m.value s) ms f lt ((kept_by_step p i (Got m.group) d m.value s f lt).wish h)

pub wish_by_block : (p : Parts) (i d : ℕ) (s : State) (due : List Message) → IsFederation p → i < length p.federates → IsWish s.wish → IsWish (after_block p i d s due).wish
wish_by_block p i d s due f lt h = (kept_by_step p i Grant d 0 (after_deliveries p i d s due) f lt).wish (wish_by_deliveries p i d s due f lt h)

-- numbers that go on, from those at each place
pub numbered_from : (sender n : ℕ) (ms : List Message) → All (λ (m : Message). m.sender ≡ sender) ms → ((k : ℕ) → k < length ms → (get_or ms k no_message).number ≡ n + k) → AreNumbered sender n ms
numbered_from sender n [] own h = tt
numbered_from sender n (m ∷ ms) own h = (
  All-head (λ (m : Message). m.sender ≡ sender) m ms own,
  h 0 (omega arith) ∙ (let e : n + 0 ≡ n = omega arith in e),
  numbered_from sender (n + 1) ms (All-tail (λ (m : Message). m.sender ≡ sender) m ms own) (λ k lt. h (suc k) (omega arith) ∙ (let e : n + suc k ≡ n + 1 + k = omega arith in e)),
)

-- a fit wish that is made below the end asks for later, and for no later than the end
pub asked_after : (w : Wish) (now end : ℕ) → IsWish w → now < end → now + 1 ≤ sane.time_of (request_at w now end)
asked_after (wish.Tar step) now end h lt = let a = h.0 in omega arith
asked_after (wish.Ner step) now end h lt = let a = h.0 in omega arith

pub asked_within : (w : Wish) (now end : ℕ) → sane.time_of (request_at w now end) ≤ end
asked_within (wish.Tar step) now end = omega arith
asked_within (wish.Ner step) now end = omega arith

-- deliveries leave a journal lawful, and its time
pub delivered_lawful : (d : ℕ) (due : List Message) (es : List JournalEntry) → IsLawful es → IsLawful (es ++ map (Delivered d) due) × (now_of (es ++ map (Delivered d) due) ≡ now_of es)
delivered_lawful d [] es h = subst (λ (l : List JournalEntry). IsLawful l × (now_of l ≡ now_of es)) (sym (append-nil es)) (h, refl)
delivered_lawful d (m ∷ ms) es h =
    let rest = delivered_lawful d ms (es ++ Delivered d m ∷ []) (deliveries_are_lawful es d m h) in
    subst (λ (l : List JournalEntry). IsLawful l × (now_of l ≡ now_of es)) (append_assoc es (Delivered d m ∷ []) (map (Delivered d) ms))
    (rest.0, rest.1 ∙ others_keep_the_time es (Delivered d m) refl)

-- they tell what was delivered
pub deliveries_in : (d : ℕ) (due : List Message) → filter_map delivery_of (map (Delivered d) due) ≡ due
deliveries_in d [] = refl
deliveries_in d (m ∷ ms) = ap (λ (l : List Message). m ∷ l) (deliveries_in d ms)

-- without a buffer an entry holds nothing
and_false : (b : Bool) → (b && false) ≡ false
and_false true = refl
and_false false = refl

no_buffer : (i k : ℕ) (e : Entry) → e.buffer ≡ None → waits_in i k e ≡ false
no_buffer i k e none = (λ t. (e.message.sender == i) && is_buffer k (none t)) ∙ and_false (e.message.sender == i)

-- so to leave out those that are timed d or less, and have none, leaves what is held
pub held_on : (i k d : ℕ) (es : List Entry) → All (λ (e : Entry). e.message.time ≤ d → e.buffer ≡ None) es
    → count_by (waits_in i k) (filter (λ (e : Entry). nat_lt d e.message.time) es) ≡ count_by (waits_in i k) es
held_on i k d [] h = refl
held_on i k d (e ∷ es) h =
    let rest = held_on i k d es (All-tail (λ (e : Entry). e.message.time ≤ d → e.buffer ≡ None) e es h) in
    let c = count_cons (waits_in i k) e es in
    ⊎_elim
    (λ (t : nat_lt d e.message.time ≡ true).
    ap (λ (b : Bool). count_by (waits_in i k) (cond b (e ∷ filter (λ (x : Entry). nat_lt d x.message.time) es) (filter (λ (x : Entry). nat_lt d x.message.time) es))) t
    ∙ (let a = count_cons (waits_in i k) e (filter (λ (x : Entry). nat_lt d x.message.time) es) in omega arith))
    (λ (t : nat_lt d e.message.time ≡ false).
    ap (λ (b : Bool). count_by (waits_in i k) (cond b (e ∷ filter (λ (x : Entry). nat_lt d x.message.time) es) (filter (λ (x : Entry). nat_lt d x.message.time) es))) t
    ∙ (let o = one_false (waits_in i k e) (no_buffer i k e (All-head (λ (e : Entry). e.message.time ≤ d → e.buffer ≡ None) e es h (ltb-false d e.message.time t))) in omega arith))
    (cases_Bool (nat_lt d e.message.time))
