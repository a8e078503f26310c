-- Messages that tie or share a number, and what holds at a place of a list.
use Rattle.std.proofs.Common.{◌≡◌, ℕ, zero, suc, ◌<◌, Bool, true, false, not, ◌&&◌, ◌==◌, List, [], ◌∷◌, length, get_or, arith, refl, sym, ap, ◌∙◌}
use Rattle.std.specs.Ordering.{nat_cmp, is_eq, ordering_then, ordering_reverse}
use Rattle.std.specs.declared.cmp.Ordering.TheVariants.{Equal}
use Rattle.std.specs.Cmp.{both_tied, tied_then, unsigned_ties}
use Rattle.std.specs.List.{AllByRecursion}
use Rattle.std.proofs.lemmas.Bool.{and_parts}
use Rattle.std.proofs.lemmas.Cmp.{nat_eq_equiv}
use Rattle.kit_base.specs.Order.{key_cmp}
use Rattle.kit_base.specs.declared.message.Message.{Message}
use Rattle.kit_queue.specs.declared.entry.Entry.{Entry}
use Rattle.kit_queue.specs.Entries.{messages_of, shares_number}
use Rattle.kit_base.proofs.Orders.{key_total}

-- messages of equal keys have the same sender and number
pub equal_shares : (a b : Message) → key_cmp a b ≡ Equal → shares_number a b ≡ true
equal_shares a b e =
    let back : key_cmp b a ≡ Equal = key_total.antisymm b a ∙ ap ordering_reverse e in
    let tied : is_eq (key_cmp b a) ≡ true = ap is_eq back in
    let numbers = ordering_then (nat_cmp b.sender a.sender) (nat_cmp b.number a.number) in
    both_tied (b.sender == a.sender) (b.number == a.number) (nat_cmp b.sender a.sender) (nat_cmp b.number a.number) (unsigned_ties b.sender a.sender) (unsigned_ties b.number a.number)
    ∙ (and_parts (is_eq (nat_cmp b.time a.time)) (is_eq numbers) (tied_then (nat_cmp b.time a.time) numbers ∙ tied)).1

-- to share a number is mutual
pub shares_flip : (a b : Message) → shares_number a b ≡ shares_number b a
shares_flip a b = ap (λ t. t && (b.number == a.number)) (nat_eq_equiv.symm b.sender a.sender) ∙ ap (λ t. (a.sender == b.sender) && t) (nat_eq_equiv.symm b.number a.number)

-- the test is false
pub unset : (b : Bool) → not b ≡ true → b ≡ false
unset true h = sym h
unset false h = refl

-- the test is true
pub is_set : (b : Bool) → not b ≡ false → b ≡ true
is_set true h = refl
is_set false h = sym h

-- what holds of each message holds of that of each entry
pub at_place : (P : Message → Type 0) (es : List Entry) (k : ℕ) (d : Entry) → AllByRecursion P (messages_of es) → k < length es → P (get_or es k d).message
at_place P [] k d h l = absurd (omega arith)
at_place P (x ∷ xs) zero d h l = h.0
at_place P (x ∷ xs) (suc k) d h l = at_place P xs k d h.1 (omega arith)
