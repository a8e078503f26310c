-- Which message takes number 16,385.
use Rattle.std.proofs.Common.{◌≡◌, ℕ, ◌+◌, ◌<◌, ◌≤◌, ◌≢◌, inl, inr, List, [], ◌∷◌, ◌++◌, length, drop, find, Option, Some, None, arith, refl, ap, ◌∙◌}
use Rattle.std.specs.Option.{option_map, option_or}
use Rattle.std.proofs.lemmas.Bool.Decides.{eqb_tells}
use Rattle.std.proofs.lemmas.List.Folds.{find-append}
use Rattle.std.proofs.Math.Seq.{drop-append_seam}
use Rattle.kit_base.specs.declared.message.Message.{Message}
use Rattle.kit_rules.specs.declared.scene.State.{State}
use Rattle.kit_rules.proofs.Growth.{Grows, AreNumbered}
use Rattle.kit_rules.specs.Simulation.{is_spent}

abbrev pub sender_of : Option Message → Option ℕ
sender_of o = option_map (λ (m : Message). m.sender) o

-- numbers that go past 16,384 have a message that takes number 16,385, of their sender
pub numbered_find : (sender n : ℕ) (ms : List Message) → AreNumbered sender n ms → n ≤ 16385 → 16385 < n + length ms → sender_of (find is_spent ms) ≡ Some sender
numbered_find sender n [] h le past = absurd (omega arith)
numbered_find sender n (m ∷ ms) h le past =
    elim (eqb_tells m.number 16385) [
      | inl e ↦ rw e.0 (ap Some h.0)
      | inr e ↦ rw e.0 (numbered_find sender (n + 1) ms h.2 (let ne : m.number ≢ 16385 = e.1 in let is : m.number ≡ n = h.1 in omega arith) (omega arith))
    ]

-- numbers that stay below have none
pub numbered_none : (sender n : ℕ) (ms : List Message) → AreNumbered sender n ms → n + length ms ≤ 16385 → find is_spent ms ≡ None
numbered_none sender n [] h le = refl
numbered_none sender n (m ∷ ms) h le =
    elim (eqb_tells m.number 16385) [
      | inl e ↦ absurd (let is : m.number ≡ n = h.1 in let at : m.number ≡ 16385 = e.1 in omega arith)
      | inr e ↦ rw e.0 (numbered_none sender (n + 1) ms h.2 (omega arith))
    ]

pub find_past : (xs ys : List Message) → find is_spent xs ≡ None → find is_spent (xs ++ ys) ≡ find is_spent ys
find_past xs ys h = find-append is_spent xs ys ∙ ap (λ o. option_or o (find is_spent ys)) h

pub find_stays : (xs ys : List Message) (m : Message) → find is_spent xs ≡ Some m → find is_spent (xs ++ ys) ≡ Some m
find_stays xs ys m h = find-append is_spent xs ys ∙ ap (λ o. option_or o (find is_spent ys)) h

-- what a state gained
pub gained : (sender : ℕ) (a b : State) (g : Grows sender a b) → drop (length a.sends) b.sends ≡ g.made
gained sender a b g = ap (drop (length a.sends)) g.sends ∙ drop-append_seam a.sends g.made

pub gained_find : (sender : ℕ) (a b : State) → Grows sender a b → a.next ≤ 16385 → 16385 < b.next → sender_of (find is_spent (drop (length a.sends) b.sends)) ≡ Some sender
gained_find sender a b g le past = rw (gained sender a b g) (numbered_find sender a.next g.made g.numbered le (omega (arith, g.next)))

pub gained_none : (sender : ℕ) (a b : State) → Grows sender a b → b.next ≤ 16385 → find is_spent (drop (length a.sends) b.sends) ≡ None
gained_none sender a b g le = rw (gained sender a b g) (numbered_none sender a.next g.made g.numbered (omega (arith, g.next)))
