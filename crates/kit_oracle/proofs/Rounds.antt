-- Posting to the desks, one after another, and message after message.
use Rattle.std.proofs.Common.{◌≡◌, ℕ, suc, ◌+◌, ◌<◌, List, [], ◌∷◌, ◌++◌, length, take, drop, get_or, set, arith, refl, sym, ap, ◌∙◌, append_assoc, add-one, drop-cons}
use Rattle.std.proofs.lemmas.List.{drop-set-lt, take_more_set}
use Rattle.kit_base.specs.declared.message.Message.{Message}
use Rattle.kit_rules.specs.Parts.{Parts}
use Rattle.kit_oracle.specs.declared.desk.Desk.{Desk}
use Rattle.kit_oracle.specs.Pending.{queue_after_message}
use Rattle.kit_oracle.specs.Desks.{receiver_mask, desks_after_message_from, desks_after_messages}

-- a desk with another queue
abbrev pub with_queue : Desk → List Message → Desk
with_queue d q = record { now = d.now; request = d.request; state = d.state; queue = q }

-- the rest from a place on begins with what stands there
drop_at : {X : Type 0} (xs : List X) (k : ℕ) (x : X) → k < length xs → drop k xs ≡ get_or xs k x ∷ drop (k + 1) xs
drop_at xs k x lt = drop-cons xs k x lt ∙ ap (λ n. get_or xs k x ∷ drop n xs) (sym (add-one k))

-- one more desk is posted to
pub post_step : (mask : ℕ) (m : Message) (j : ℕ) (ds : List Desk) (x : Desk) (q : List Message) → j < length ds → x ≡ get_or ds j x → q ≡ queue_after_message mask j m x.queue
    → take (j + 1) (set ds j (with_queue x q)) ++ desks_after_message_from mask m (j + 1) (drop (j + 1) (set ds j (with_queue x q))) ≡ take j ds ++ desks_after_message_from mask m j (drop j ds)
post_step mask m j ds x q lt at is =
    let new = with_queue x q in
    let rest = desks_after_message_from mask m (j + 1) (drop (j + 1) ds) in
    ap (λ ys. take (j + 1) (set ds j new) ++ desks_after_message_from mask m (j + 1) ys) (drop-set-lt (j + 1) ds j new (omega arith))
    ∙ ap (λ ys. ys ++ rest) (take_more_set ds j new lt)
    ∙ append_assoc (take j ds) (new ∷ []) rest
    ∙ ap (λ ys. take j ds ++ with_queue x ys ∷ rest) is
    ∙ ap (λ ys. take j ds ++ desks_after_message_from mask m j ys) (sym (drop_at ds j x lt ∙ ap (λ y. y ∷ drop (j + 1) ds) (sym at)))

-- posting leaves as many desks
pub length_posted : (mask : ℕ) (m : Message) (j : ℕ) (ds : List Desk) → length (desks_after_message_from mask m j ds) ≡ length ds
length_posted mask m j [] = refl
length_posted mask m j (d ∷ ds) = ap suc (length_posted mask m (j + 1) ds)

-- one more message is posted
pub post_next : (p : Parts) (made : List Message) (k : ℕ) (x : Message) (ds : List Desk) → k < length made
    → desks_after_messages p (drop (k + 1) made) (desks_after_message_from (receiver_mask p (get_or made k x)) (get_or made k x) 0 ds) ≡ desks_after_messages p (drop k made) ds
post_next p made k x ds lt = ap (λ ms. desks_after_messages p ms ds) (sym (drop_at made k x lt))
