-- The least of the entries that pass a test.
use Rattle.std.proofs.Common.{◌≡◌, ℕ, zero, suc, ◌+◌, ◌<◌, Bool, true, false, cond, List, [], ◌∷◌, length, take, get_or, Option, Some, None, arith, refl, sym, ap, ◌∙◌, subst, true≢false}
use Rattle.std.specs.Ordering.{is_lt, ordering_reverse}
use Rattle.std.specs.declared.cmp.Ordering.{Ordering}
use Rattle.std.specs.declared.cmp.Ordering.TheVariants.{Less, Equal, Greater}
use Rattle.std.specs.List.{AllByRecursion, IsDistinct, remove}
use Rattle.std.proofs.lemmas.List.{take_more}
use Rattle.kit_base.proofs.Lists.{all-append, each_weaker}
use Rattle.kit_base.specs.Order.{key_cmp, is_before}
use Rattle.kit_base.specs.declared.message.Message.{Message}
use Rattle.kit_queue.specs.declared.entry.Entry.{Entry}
use Rattle.kit_queue.specs.Entries.{messages_of, shares_number, AreNumberedApart}
use Rattle.kit_base.proofs.Orders.{key_total}
use Rattle.kit_calendar.proofs.Queue.{equal_shares, shares_flip, at_place}
use Rattle.kit_calendar.specs.Least.{IsLeastOf, IsBestOf, lesser_of}

-- what holds of the first n and of the next holds of the first n + 1
each_more : (P : Entry → Type 0) (es : List Entry) (n : ℕ) (e : Entry) → n < length es → e ≡ get_or es n e → AllByRecursion P (take n es) → P e → AllByRecursion P (take (n + 1) es)
each_more P es n e l h a p = subst (AllByRecursion P) (sym (take_more es n e l)) (all-append P (take n es) (get_or es n e ∷ []) a (subst P h p, tt))

-- an entry that does not pass changes nothing
pub skipped : (p : Entry → Bool) (es : List Entry) (n : ℕ) (e : Entry) (best : Option (ℕ × Entry)) → n < length es → e ≡ get_or es n e → p e ≡ false → IsBestOf p es n best → IsBestOf p es (n + 1) best
skipped p es n e None l h f b = each_more (λ x. p x ≡ false) es n e l h b f
skipped p es n e (Some found) l h f b = record {
  within = omega (arith, b.within);
  stands = b.stands;
  passes = b.passes;
  first = each_more (λ x. p x ≡ true → is_before x.message found.1.message ≡ false) es n e l h b.first (λ q. absurd (true≢false (sym q ∙ f)));
}

-- of two messages one is not before the other
pub not_both : (a b : Message) → is_before a b ≡ true → is_before b a ≡ false
not_both a b h = ap is_lt (key_total.antisymm b a ∙ ap ordering_reverse (lt_less (key_cmp a b) h))
  where
    lt_less : (o : Ordering) → is_lt o ≡ true → o ≡ Less
    lt_less o h = grind arith

-- a message is not before itself
pub not_itself : (a : Message) → is_before a a ≡ false
not_itself a = elim (is_before a a) as (λ b. is_before a a ≡ b → b ≡ false) [ true ↦ λ h. sym h ∙ not_both a a h | false ↦ λ h. refl ] refl

-- what is not before a message is not before one that is before that
not_earlier : (a b e : Message) → is_before e b ≡ true → is_before a b ≡ false → is_before a e ≡ false
not_earlier a b e h f =
    elim (is_before a e) as (λ t. is_before a e ≡ t → t ≡ false) [
      | true ↦ λ q. absurd (true≢false (sym (ap is_lt (key_total.trans a e b (lt_less (key_cmp a e) q) (lt_less (key_cmp e b) h))) ∙ f))
      | false ↦ λ q. refl
    ] refl
  where
    lt_less : (o : Ordering) → is_lt o ≡ true → o ≡ Less
    lt_less o h = grind arith

-- of the best so far and an entry that passes the lesser is the best
pub compared : (p : Entry → Bool) (es : List Entry) (n : ℕ) (e : Entry) (best : Option (ℕ × Entry)) → n < length es → e ≡ get_or es n e → p e ≡ true → IsBestOf p es n best → IsBestOf p es (n + 1) (lesser_of best n e)
compared p es n e None l h t b = record {
  within = omega arith;
  stands = h;
  passes = t;
  first = each_more (λ x. p x ≡ true → is_before x.message e.message ≡ false) es n e l h (each_weaker (λ x. p x ≡ false) (λ x. p x ≡ true → is_before x.message e.message ≡ false) (take n es) (λ x f q. absurd (true≢false (sym q ∙ f))) b) (λ q. not_itself e.message);
}
compared p es n e (Some found) l h t b =
    elim (is_before e.message found.1.message) as (λ r. is_before e.message found.1.message ≡ r → IsBestOf p es (n + 1) (cond r (Some (n, e)) (Some found))) [
      | true ↦ λ q. record {
        within = omega arith;
        stands = h;
        passes = t;
        first = each_more (λ x. p x ≡ true → is_before x.message e.message ≡ false) es n e l h (each_weaker (λ x. p x ≡ true → is_before x.message found.1.message ≡ false) (λ x. p x ≡ true → is_before x.message e.message ≡ false) (take n es) (λ x f g. not_earlier x.message found.1.message e.message q (f g)) b.first) (λ g. not_itself e.message);
      }
      | false ↦ λ q. record {
        within = omega (arith, b.within);
        stands = b.stands;
        passes = b.passes;
        first = each_more (λ x. p x ≡ true → is_before x.message found.1.message ≡ false) es n e l h b.first (λ g. q);
      }
    ] refl

-- a message that is not before one of another number is after it
after : (e x : Message) → shares_number e x ≡ false → is_before x e ≡ false → is_before e x ≡ true
after e x far f =
    elim (key_cmp e x) as (λ o. key_cmp e x ≡ o → is_lt o ≡ true) [
      | Less ↦ λ h. refl
      | Equal ↦ λ h. absurd (true≢false (sym (equal_shares e x h) ∙ far))
      | Greater ↦ λ h. absurd (true≢false (sym (ap is_lt (key_total.antisymm x e ∙ ap ordering_reverse h)) ∙ f))
    ] refl

-- the least is before all the others that pass
pub before_others : (p : Entry → Bool) (es : List Entry) (i : ℕ) (e : Entry) → AreNumberedApart es → i < length es → e ≡ get_or es i e → AllByRecursion (λ x. p x ≡ true → is_before x.message e.message ≡ false) es → AllByRecursion (λ x. p x ≡ true → is_before e.message x.message ≡ true) (remove es i)
unfolding IsDistinct
before_others p [] i e d l h a = absurd (omega arith)
before_others p (x ∷ xs) zero e d l h a = others xs (subst (λ y. AllByRecursion (λ z. shares_number y.message z ≡ false) (messages_of xs)) (sym h) d.0) a.1
  where
    others : (ys : List Entry) → AllByRecursion (λ z. shares_number e.message z ≡ false) (messages_of ys) → AllByRecursion (λ y. p y ≡ true → is_before y.message e.message ≡ false) ys → AllByRecursion (λ y. p y ≡ true → is_before e.message y.message ≡ true) ys
    others [] far weak = tt
    others (y ∷ ys) far weak = ((λ q. after e.message y.message far.0 (weak.0 q)), others ys far.1 weak.1)
before_others p (x ∷ xs) (suc i) e d l h a =
    let far : shares_number x.message e.message ≡ false = ap (λ y. shares_number x.message y.message) h ∙ at_place (λ y. shares_number x.message y ≡ false) xs i e d.0 (omega arith) in
    ((λ q. after e.message x.message (shares_flip e.message x.message ∙ far) (a.0 q)), before_others p xs i e d.1 (omega arith) h a.1)

-- the first ones, as many as there are, are all
pub all_taken : (es : List Entry) → take (length es) es ≡ es
all_taken [] = refl
all_taken (x ∷ xs) = ap (λ ys. x ∷ ys) (all_taken xs)

-- the best of all is before all the others that pass
pub best_before : (p : Entry → Bool) (es : List Entry) (found : ℕ × Entry) → AreNumberedApart es → IsLeastOf p es (length es) found.0 found.1 → AllByRecursion (λ x. p x ≡ true → is_before found.1.message x.message ≡ true) (remove es found.0)
best_before p es found d b = before_others p es found.0 found.1 d b.within b.stands (subst (AllByRecursion (λ x. p x ≡ true → is_before x.message found.1.message ≡ false)) (all_taken es) b.first)

-- where there is no best none passes
pub no_best : (p : Entry → Bool) (es : List Entry) → IsBestOf p es (length es) None → AllByRecursion (λ x. p x ≡ false) es
no_best p es b = subst (AllByRecursion (λ x. p x ≡ false)) (all_taken es) b

-- what stands at a place there is does not depend on a default
pub same_there : (es : List Entry) (n : ℕ) (d e : Entry) → n < length es → get_or es n d ≡ get_or es n e
same_there [] n d e l = absurd (omega arith)
same_there (x ∷ xs) zero d e l = refl
same_there (x ∷ xs) (suc n) d e l = same_there xs n d e (omega arith)
