-- The pending messages of a cut come back.
use Rattle.std.proofs.Common.{◌≡◌, ℕ, ◌+◌, ◌^◌, ◌<◌, List, [], ◌∷◌, length, Option, true, false, Some, None, Ok, nat_lt, nat_le, codes, refl, sym, subst, ap, arith, inl, inr, eqb-true}
use Rattle.std.specs.Prelude.{◌==◌, IsTrue, slice_index}
use Rattle.std.specs.List.{All, AllPairs, list_any}
use Rattle.std.proofs.lemmas.Bool.{cases_Bool, and_parts}
use Rattle.std.proofs.lemmas.List.Elements.{All-head, All-tail, All-nil}
use Rattle.serde_json.specs.Data.{Data}
use Rattle.serde_json.specs.Find.{get}
use Rattle.kit_base.specs.declared.message.Message.{Message}
use Rattle.kit_base.specs.declared.message.Kind.{Kind}
use Rattle.kit_base.specs.declared.message.Kind.TheVariants.{Event, Retraction}
use Rattle.kit_base.specs.Order.{is_before}
use Rattle.kit_rules.specs.declared.table.Request.{Request}
use Rattle.kit_rules.specs.Parts.{Parts}
use Rattle.kit_rules.specs.Step.{is_event}
use Rattle.kit_walk.specs.Paths.{item_path}
use Rattle.kit_walk.specs.Places.{list}
use Rattle.kit_cut.specs.ValidCuts.{IsPendingMessage, NumbersDiffer, AreTimely, ArePending}
use Rattle.kit_save.specs.Values.{list_value}
use Rattle.kit_save.specs.CutWidths.{IsWordMessage}
use Rattle.kit_save.specs.CutValues.{message_row, message_value}
use Rattle.kit_restore.specs.CutWalk.{members_of, row_of, row_step, message_in, is_same_send, message_of, message_step, messages_of, earliest_by}
use Rattle.kit_save.proofs.Lists.{middle, all_both, pairs_before, one_more, list_read, TakesEach}
use Rattle.kit_save.proofs.Rows.{list_taken}
use Rattle.kit_save.proofs.Own.{all_pass}

-- the numbers of one
row_taken : (m : Message) → row_of 5 (message_value m) ≡ Ok (message_row m)
unfolding row_of members_of row_step
row_taken m = refl

-- an Event of these numbers
event_again : (m : Message) → IsTrue (is_event m.kind) → message_in (message_row m) ≡ m
event_again m is = of_kind m.kind is
  where
    of_kind : (k : Kind) → IsTrue (is_event k) → message_in (message_row m) ≡ record m { kind = k }
    of_kind Event is = refl
    of_kind Retraction is = absurd (cc)

-- it comes after those before
abbrev ComesBefore : Message → Message → Type 0
ComesBefore a b = IsTrue (is_before a b)

-- no other has its number and sender
not_same_send : (m b : Message) → NumbersDiffer b m → is_same_send m b ≡ false
not_same_send m b differ = elim (cases_Bool (is_same_send m b)) [
  | inl t ↦ let two = and_parts (b.sender == m.sender) (b.number == m.number) t in absurd (differ (eqb-true b.sender m.sender two.0) (eqb-true b.number m.number two.1))
  | inr f ↦ f
]

none_same : (m : Message) (before : List Message) → All (λ b. NumbersDiffer b m) before → list_any (is_same_send m) before ≡ false
none_same m [] h = refl
none_same m (b ∷ before) h = rw (not_same_send m b (All-head (λ x. NumbersDiffer x m) b before h)) (none_same m before (All-tail (λ x. NumbersDiffer x m) b before h))

-- what a pending message has to be
abbrev IsWordPending : Parts → ℕ → ℕ → List ℕ → Message → Type 0
IsWordPending p i from nexts m = IsPendingMessage p i from nexts m × IsWordMessage m

-- one after others
message_taken : (p : Parts) (i from : ℕ) (nexts : List ℕ) (before : List Message) (m : Message) → All (λ b. ComesBefore b m) before → All (λ b. NumbersDiffer b m) before → IsWordPending p i from nexts m
    → message_of p i from nexts before (message_value m) ≡ Ok m
unfolding message_of
message_taken p i from nexts before m rises differ is =
    let low : nat_le from m.time ≡ true = let h = is.0.low in search arith in
    let high : nat_le m.time p.end ≡ true = let h = is.0.high in search arith in
    let there : nat_lt m.sender (length p.federates) ≡ true = let h = is.0.sender in search arith in
    let number : nat_lt m.number (slice_index nexts m.sender) ≡ true = let h = is.0.number in search arith in
    let group : nat_lt m.group (length p.groups) ≡ true = let h = is.0.group in search arith in
    let small : m.value < 2 ^ 32 = is.1 in
    let value : nat_lt m.value (2 ^ 32) ≡ true = search arith in
    rw (row_taken m, all_pass (λ b. is_before b m) before rises, none_same m before differ, low, high, there, is.0.regulating, number, group, is.0.receives, value) (ap Ok (event_again m is.0.event))

-- each of them
each_message : (p : Parts) (i from : ℕ) (nexts : List ℕ) (ms : List Message) → AllPairs ComesBefore ms → AllPairs NumbersDiffer ms → All (IsWordPending p i from nexts) ms → TakesEach (message_step p i from nexts) message_value ms
unfolding message_step
each_message p i from nexts ms rise differ each_ before m after at =
    one_more (item_path (codes "pending") (length before)) (message_of p i from nexts before (message_value m)) before m
    (message_taken p i from nexts before m
    (pairs_before ComesBefore before m after (subst (AllPairs ComesBefore) at rise))
    (pairs_before NumbersDiffer before m after (subst (AllPairs NumbersDiffer) at differ))
    (middle (IsWordPending p i from nexts) before m after (subst (All (IsWordPending p i from nexts)) at each_)))

-- each is timely by the request
timely : (p : Parts) (at : ℕ) (nexts : List ℕ) (i now : ℕ) (request : Option Request) (ms : List Message) → AreTimely p at nexts i now request ms → All (IsPendingMessage p i (earliest_by at now request) nexts) ms
timely p at nexts i now (Some r) ms are = are.asked r refl
timely p at nexts i now None ms are = subst (All (IsPendingMessage p i (now + 1) nexts)) (sym (are.unasked refl)) (All-nil (IsPendingMessage p i (now + 1) nexts))

-- the list pending
pub messages_taken : (p : Parts) (at : ℕ) (nexts : List ℕ) (i now : ℕ) (request : Option Request) (d : Data) (ms : List Message) → get (codes "pending") d ≡ Some (list_value message_value ms) → ArePending p at nexts i now request ms → All IsWordMessage ms
    → messages_of p i (earliest_by at now request) nexts d ≡ Ok ms
unfolding messages_of
messages_taken p at nexts i now request d ms e are word =
    list_read (list (codes "pending") 0 262144 d) (message_step p i (earliest_by at now request) nexts) message_value ms
    (list_taken (codes "pending") 0 262144 d message_value ms e (omega arith) are.few)
    (each_message p i (earliest_by at now request) nexts ms are.rise are.differ
    (all_both (IsPendingMessage p i (earliest_by at now request) nexts) IsWordMessage ms (timely p at nexts i now request ms are.each) word))
