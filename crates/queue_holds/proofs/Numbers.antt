-- The first entry's number is no other entry's.
use Rattle.std.proofs.Common.{◌≡◌, false, cond, List, [], ◌∷◌, Some, None, refl, ap, ◌∙◌, subst, sym}
use Rattle.std.specs.List.{AllByRecursion, IsDistinct}
use Rattle.kit_base.specs.declared.message.Message.{Message}
use Rattle.kit_queue.specs.declared.entry.Entry.{Entry}
use Rattle.kit_queue.specs.Entries.{messages_of, shares_number, AreNumberedApart, entry_of}

-- where all have other numbers than a message, no entry has its number
no_other : (m : Message) (es : List Entry) → AllByRecursion (λ y. shares_number m y ≡ false) (messages_of es) → entry_of m.sender m.number es ≡ None
no_other m [] a = refl
no_other m (x ∷ xs) a = ap (λ b. cond b (Some x) (entry_of m.sender m.number xs)) a.0 ∙ no_other m xs a.1

-- once the first is taken, no entry has its number
pub number_is_free : (e : Entry) (old new : List Entry) → old ≡ e ∷ new → AreNumberedApart old → entry_of e.message.sender e.message.number new ≡ None
unfolding IsDistinct
number_is_free e old new h apart = let d : AreNumberedApart (e ∷ new) = subst AreNumberedApart h apart in no_other e.message new d.0
