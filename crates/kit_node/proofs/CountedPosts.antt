-- The counts of the copies posted, where more of the federate's own colour are posted.
use Rattle.std.proofs.Common.{◌≡◌, ◌==◌, ℕ, zero, suc, ◌+◌, min, Bool, true, false, ⊎_elim, List, [], ◌∷◌, ◌++◌, length, map, Option, Some, None, refl, sym, ap, ◌∙◌, subst, arith, eq-eqb}
use Rattle.std.specs.Prelude.{count_by, if◌then◌else◌}
use Rattle.std.proofs.lemmas.Bool.{cases_Bool, le-ltb}
use Rattle.std.proofs.lemmas.List.{append-nil, append_assoc, length_push, map_push}
use Rattle.std.proofs.lemmas.List.Sums.{sum_by_push}
use Rattle.kit_model.specs.Counts.{is_old, old_count}
use Rattle.kit_rounds.specs.Ledgers.{Copy, colours}
use Rattle.kit_lbts.specs.declared.view.LbtsView.{LbtsView}
use Rattle.kit_lbts.specs.declared.view.Posting.{Posting}
use Rattle.kit_lbts.specs.Letters.{letter_in}
use Rattle.kit_lbts.specs.Promises.{copy_posted, least_post, least_with}
use Rattle.kit_rules.specs.Delivery.{has_bit}
use Rattle.kit_node.specs.declared.posts.Posts.{Posts}
use Rattle.kit_node.specs.Fields.{earlier, one_post_more}
use Rattle.kit_node.specs.Mirrors.{MirrorsPosts, colour_of, is_colour}
use Rattle.kit_node.specs.Sending.{posts_after}
use Rattle.kit_node.proofs.PostsBelow.{copy, made_below, made_off, made_on, posts_off, posts_on}

-- the counts of postings, where the federate has this colour
pub record CountsPosts (posts : Posts) (colour : ℕ) (posted : List Posting) : Type 0 where
  pub older : posts.older ≡ old_count colour (colours (map copy_posted posted))
  pub own : posts.own ≡ count_by (is_colour colour) (colours (map copy_posted posted))
  pub all_counted : posts.older + posts.own ≡ length posted
  pub least : posts.least ≡ least_post colour (map copy_posted posted)

pub counts_of : (posts : Posts) (v : LbtsView) → MirrorsPosts posts v → CountsPosts posts (colour_of v) v.posted
counts_of posts v m = record { older = m.older; own = m.own; all_counted = m.all_counted; least = m.least }

pub mirrors_of : (posts : Posts) (v : LbtsView) → CountsPosts posts (colour_of v) v.posted → MirrorsPosts posts v
mirrors_of posts v m = record { older = m.older; own = m.own; all_counted = m.all_counted; least = m.least }

-- the colours of one more
colours_push : (xs : List Posting) (x : Posting) → colours (map copy_posted (xs ++ x ∷ [])) ≡ colours (map copy_posted xs) ++ x.filled.colour ∷ []
colours_push xs x = ap colours (map_push copy_posted xs x) ∙ map_push (λ (c : Copy). c.stamp.colour) (map copy_posted xs) (copy_posted x)

count_push : (p : ℕ → Bool) (xs : List ℕ) (x : ℕ) → count_by p (xs ++ x ∷ []) ≡ count_by p xs + (if p x then 1 else 0)
count_push p xs x = sum_by_push (λ (y : ℕ). if p y then 1 else 0) xs x

-- the least time, with one more of the colour at the end
least_earlier : (t own : ℕ) (o : Option ℕ) → Some (least_with own (earlier t o)) ≡ earlier t (Some (least_with own o))
least_earlier t own None = refl
least_earlier t own (Some u) = ap Some (let e : min own (min u t) ≡ min (min own u) t = omega arith in e)

least_step : (colour t : ℕ) (c : Copy) (before after : Option ℕ) (b : Bool) → after ≡ earlier t before
    → (if b then Some (least_with c.stamp.time after) else after) ≡ earlier t (if b then Some (least_with c.stamp.time before) else before)
least_step colour t c before after true is = ap (λ (o : Option ℕ). Some (least_with c.stamp.time o)) is ∙ least_earlier t c.stamp.time before
least_step colour t c before after false is = is

least_push : (colour : ℕ) (cs : List Copy) (x : Copy) → x.stamp.colour ≡ colour → least_post colour (cs ++ x ∷ []) ≡ earlier x.stamp.time (least_post colour cs)
least_push colour [] x is = ap (λ (b : Bool). if b then Some x.stamp.time else None) (eq-eqb x.stamp.colour colour is)
least_push colour (c ∷ cs) x is = least_step colour x.stamp.time c (least_post colour cs) (least_post colour (cs ++ x ∷ [])) (c.stamp.colour == colour) (least_push colour cs x is)

pub counts_more : (posts : Posts) (colour : ℕ) (posted : List Posting) (x : Posting) → x.filled.colour ≡ colour → CountsPosts posts colour posted
    → CountsPosts (one_post_more x.filled.message.time posts) colour (posted ++ x ∷ [])
counts_more posts colour posted x is m =
    let seen : colours (map copy_posted (posted ++ x ∷ [])) ≡ colours (map copy_posted posted) ++ x.filled.colour ∷ [] = colours_push posted x in
    let not_old : is_old colour x.filled.colour ≡ false = le-ltb x.filled.colour colour (omega arith) in
    let own_one : is_colour colour x.filled.colour ≡ true = eq-eqb x.filled.colour colour is in
    let old : old_count colour (colours (map copy_posted (posted ++ x ∷ []))) ≡ old_count colour (colours (map copy_posted posted)) + 0 =
    ap (old_count colour) seen ∙ (count_push (is_old colour) (colours (map copy_posted posted)) x.filled.colour ∙ ap (λ (b : Bool). old_count colour (colours (map copy_posted posted)) + (if b then 1 else 0)) not_old) in
    let own : count_by (is_colour colour) (colours (map copy_posted (posted ++ x ∷ []))) ≡ count_by (is_colour colour) (colours (map copy_posted posted)) + 1 =
    ap (count_by (is_colour colour)) seen ∙ (count_push (is_colour colour) (colours (map copy_posted posted)) x.filled.colour ∙ ap (λ (b : Bool). count_by (is_colour colour) (colours (map copy_posted posted)) + (if b then 1 else 0)) own_one) in
    let a = m.older in
    let b = m.own in
    let c = m.all_counted in
    let l : length (posted ++ x ∷ []) ≡ length posted + 1 = length_push posted x in
    record {
      older = omega arith;
      own = omega arith;
      all_counted = omega arith;
      least = ap (earlier x.filled.message.time) m.least ∙ sym (ap (least_post colour) (map_push copy_posted posted x) ∙ least_push colour (map copy_posted posted) (copy_posted x) is);
    }

-- a message is posted to each receiver below n
pub counts_below : (posts : Posts) (colour time k mask n : ℕ) (v : LbtsView) (posted : List Posting) → (letter_in v k).colour ≡ colour → (letter_in v k).message.time ≡ time → CountsPosts posts colour posted
    → CountsPosts (posts_after time mask n posts) colour (posted ++ made_below n k mask v)
counts_below posts colour time k mask zero v posted is_colour is_time m = subst (CountsPosts posts colour) (sym (append-nil posted)) m
counts_below posts colour time k mask (suc n) v posted is_colour is_time m =
    let before = counts_below posts colour time k mask n v posted is_colour is_time m in
    let A : Posts → List Posting → Type 0 = λ o l. CountsPosts o colour l in
    ⊎_elim
    (λ (on : has_bit mask n ≡ true).
    let now : CountsPosts (one_post_more (letter_in v k).message.time (posts_after time mask n posts)) colour ((posted ++ made_below n k mask v) ++ copy k v n ∷ []) = counts_more (posts_after time mask n posts) colour (posted ++ made_below n k mask v) (copy k v n) is_colour before in
    let counted : one_post_more (letter_in v k).message.time (posts_after time mask n posts) ≡ posts_after time mask (suc n) posts = ap (λ (t : ℕ). one_post_more t (posts_after time mask n posts)) is_time ∙ sym (posts_on time mask n posts on) in
    let listed : (posted ++ made_below n k mask v) ++ copy k v n ∷ [] ≡ posted ++ made_below (suc n) k mask v = append_assoc posted (made_below n k mask v) (copy k v n ∷ []) ∙ ap (λ (l : List Posting). posted ++ l) (sym (made_on n k mask v on)) in
    subst (λ (x : Posts × List Posting). A x.0 x.1) (λ i. (counted i, listed i)) now)
    (λ (off : has_bit mask n ≡ false). subst (λ (x : Posts × List Posting). A x.0 x.1) (λ i. (sym (posts_off time mask n posts off) i, posted ++ sym (made_off n k mask v off) i)) before)
    (cases_Bool (has_bit mask n))
