-- Posting to the desks since a cut, one after another, and message after message; and desks that are restored one after another.
use Rattle.std.proofs.Common.{◌≡◌, ℕ, zero, suc, ◌+◌, ◌<◌, ◌≤◌, true, false, cond, List, [], ◌∷◌, ◌++◌, length, take, drop, get_or, set, arith, refl, sym, subst, ap, ◌∙◌, append_assoc}
use Rattle.std.specs.List.{AllByRecursion, AllPairs}
use Rattle.std.specs.Bool.{IsTrue}
use Rattle.std.specs.Ordering.{is_lt}
use Rattle.std.specs.declared.cmp.Ordering.TheVariants.{Less}
use Rattle.std.proofs.lemmas.List.Elements.{All-from_recursion}
use Rattle.std.proofs.lemmas.List.{append-nil, drop_all, drop_more, drop-set-lt, take_more, take_more_set}
use Rattle.kit_base.specs.declared.message.Message.{Message}
use Rattle.kit_base.specs.Order.{key_cmp, is_before}
use Rattle.kit_rules.specs.Parts.{Parts}
use Rattle.kit_oracle.specs.declared.desk.Desk.{Desk}
use Rattle.kit_oracle.specs.Pending.{queue_with}
use Rattle.kit_oracle.specs.Desks.{receiver_mask}
use Rattle.kit_oracle.proofs.Rounds.{with_queue}
use Rattle.kit_oracle.proofs.Rows.{is_less, enters_far}
use Rattle.kit_cut.specs.declared.cut.Standing.{Standing}
use Rattle.kit_cut.specs.declared.cut.Cut.{Cut}
use Rattle.kit_cut.specs.ValidCuts.{standing_at}
use Rattle.kit_cut.proofs.Pairwise.{Pairwise}
use Rattle.kit_cut.proofs.WasPending.{pairs_to}
use Rattle.kit_cut.specs.SinceCut.{desk_restored, desks_restored, named_time, is_named, queue_after_since, desks_after_message_since, desks_after_messages_since}

-- a message that is not the named one is passed over
pub named_next : (r : Message) (ms : List Message) (k : ℕ) (d : Message) → k < length ms → is_named r (get_or ms k d) ≡ false → named_time (drop (k + 1) ms) r ≡ named_time (drop k ms) r
named_next r ms k d lt e = sym (ap (λ xs. named_time xs r) (drop_more ms k d lt) ∙ ap (λ b. cond b (get_or ms k d).time (named_time (drop (k + 1) ms) r)) e)

-- and at the named one its time is found
pub named_here : (r : Message) (ms : List Message) (k : ℕ) (d : Message) → k < length ms → is_named r (get_or ms k d) ≡ true → (get_or ms k d).time ≡ named_time (drop k ms) r
named_here r ms k d lt e = sym (ap (λ xs. named_time xs r) (drop_more ms k d lt) ∙ ap (λ b. cond b (get_or ms k d).time (named_time (drop (k + 1) ms) r)) e)

-- one more desk is posted to
pub post_step_since : (c : Cut) (mask : ℕ) (m : Message) (j : ℕ) (ds : List Desk) (x : Desk) (q : List Message) → j < length ds → x ≡ get_or ds j x → q ≡ queue_after_since mask j (standing_at c j).pending m x.queue
    → take (j + 1) (set ds j (with_queue x q)) ++ desks_after_message_since c mask m (j + 1) (drop (j + 1) (set ds j (with_queue x q))) ≡ take j ds ++ desks_after_message_since c mask m j (drop j ds)
post_step_since c mask m j ds x q lt at is =
    let new = with_queue x q in
    let rest = desks_after_message_since c mask m (j + 1) (drop (j + 1) ds) in
    ap (λ ys. take (j + 1) (set ds j new) ++ desks_after_message_since c mask m (j + 1) ys) (drop-set-lt (j + 1) ds j new (omega arith))
    ∙ ap (λ ys. ys ++ rest) (take_more_set ds j new lt)
    ∙ append_assoc (take j ds) (new ∷ []) rest
    ∙ ap (λ ys. take j ds ++ with_queue x ys ∷ rest) is
    ∙ ap (λ ys. take j ds ++ desks_after_message_since c mask m j ys) (sym (drop_more ds j x lt ∙ ap (λ y. y ∷ drop (j + 1) ds) (sym at)))

-- posting leaves as many desks
pub length_posted_since : (c : Cut) (mask : ℕ) (m : Message) (j : ℕ) (ds : List Desk) → length (desks_after_message_since c mask m j ds) ≡ length ds
length_posted_since c mask m j [] = refl
length_posted_since c mask m j (d ∷ ds) = ap suc (length_posted_since c mask m (j + 1) ds)

-- one more message is posted
pub post_next_since : (p : Parts) (c : Cut) (made : List Message) (k : ℕ) (x : Message) (ds : List Desk) → k < length made
    → desks_after_messages_since p c (drop (k + 1) made) (desks_after_message_since c (receiver_mask p (get_or made k x)) (get_or made k x) 0 ds) ≡ desks_after_messages_since p c (drop k made) ds
post_next_since p c made k x ds lt = ap (λ ms. desks_after_messages_since p c ms ds) (sym (drop_more made k x lt))

-- a message that comes after all of a queue enters it last
enters_last : (m : Message) (xs : List Message) → AllByRecursion (λ (x : Message). key_cmp x m ≡ Less) xs → queue_with m xs ≡ xs ++ m ∷ []
enters_last m xs h = ap (queue_with m) (sym (append-nil xs)) ∙ enters_far m xs [] h

-- the messages before a place come before the one there
before_place : (ms : List Message) (k : ℕ) (d : Message) → k < length ms → Pairwise (λ a b. is_before a b ≡ true) ms → AllByRecursion (λ (x : Message). key_cmp x (get_or ms k d) ≡ Less) (take k ms)
before_place [] k d lt h = absurd (omega arith)
before_place (m ∷ ms) zero d lt h = tt
before_place (m ∷ ms) (suc k) d lt h =
    (is_less (key_cmp m (get_or ms k d)) (All-from_recursion (λ (y : Message). is_before m y ≡ true) ms h.0 k d (omega arith)), before_place ms k d (omega arith) h.1)

-- so rising messages enter a queue in their order
pub enters_next : (ms : List Message) (k : ℕ) (d : Message) → k < length ms → AllPairs (λ a b. IsTrue (is_before a b)) ms → queue_with (get_or ms k d) (take k ms) ≡ take (k + 1) ms
enters_next ms k d lt rise =
    enters_last (get_or ms k d) (take k ms) (before_place ms k d lt (pairs_to (λ a b. is_before a b ≡ true) ms rise)) ∙ sym (take_more ms k d lt)

-- one more desk is restored
pub restored_next : (desks : List Desk) (i : ℕ) (ns : List ℕ) (ss : List Standing) (d : Standing) → i < length ns → i < length ss
    → (desks ++ desk_restored i (get_or ns i 0) (get_or ss i d) ∷ []) ++ desks_restored (i + 1) (drop (i + 1) ns) (drop (i + 1) ss) ≡ desks ++ desks_restored i (drop i ns) (drop i ss)
restored_next desks i ns ss d lt inside =
    append_assoc desks (desk_restored i (get_or ns i 0) (get_or ss i d) ∷ []) (desks_restored (i + 1) (drop (i + 1) ns) (drop (i + 1) ss))
    ∙ ap (λ xs. desks ++ desks_restored i xs (get_or ss i d ∷ drop (i + 1) ss)) (sym (drop_more ns i 0 lt))
    ∙ ap (λ xs. desks ++ desks_restored i (drop i ns) xs) (sym (drop_more ss i d inside))

-- where none is left, all are restored
pub restored_all : (desks whole : List Desk) (i : ℕ) (ns : List ℕ) (ss : List Standing) → length ns ≤ i → desks ++ desks_restored i (drop i ns) (drop i ss) ≡ whole → desks ≡ whole
restored_all desks whole i ns ss le h = sym (append-nil desks) ∙ ap (λ xs. desks ++ desks_restored i xs (drop i ss)) (sym (drop_all i ns le)) ∙ h
