-- Taking out the entry of a key is a filter, where no two keys are the same.
use Rattle.std.proofs.Common.{◌≡◌, Bool, true, false, cond, not, List, [], ◌∷◌, filter, refl, sym, ap, ◌∙◌}
use Rattle.std.specs.List.{AllByRecursion, IsDistinct}
use Rattle.std.specs.Map.{remove_entry, keys_of}

-- behind the key none is equal to it
none_passes : {K X : Type 0} (test : K → Bool) (eq : K → K → Bool) (x : K) → test x ≡ true → ((y : K) → test x ≡ true → test y ≡ eq x y) → (es : List (K × X)) → AllByRecursion (λ y. eq x y ≡ false) (keys_of es)
    → filter (λ (e : K × X). not (test e.0)) es ≡ es
none_passes test eq x h one [] far = refl
none_passes {K} {X} test eq x h one (e ∷ es) far =
    let rest = filter (λ (e : K × X). not (test e.0)) es in
    ap (λ b. cond (not b) (e ∷ rest) rest) (one e.0 h ∙ far.0) ∙ ap (λ xs. e ∷ xs) (none_passes test eq x h one es far.1)

-- taking out the first that passes takes out all
pub remove_is_filter : {K X : Type 0} (test : K → Bool) (eq : K → K → Bool) → ((x y : K) → test x ≡ true → test y ≡ eq x y) → (es : List (K × X)) → IsDistinct eq (keys_of es)
    → remove_entry test es ≡ filter (λ (e : K × X). not (test e.0)) es
unfolding IsDistinct
remove_is_filter test eq one [] d = refl
remove_is_filter {K} {X} test eq one (e ∷ es) d =
    let rest = filter (λ (e : K × X). not (test e.0)) es in
    let found : test e.0 ≡ true → es ≡ rest = λ h. sym (none_passes test eq e.0 h (one e.0) es d.0) in
    let below : remove_entry test es ≡ rest = remove_is_filter test eq one es d.1 in
    elim (test e.0) as (λ b. (b ≡ true → es ≡ rest) → cond b es (e ∷ remove_entry test es) ≡ cond (not b) (e ∷ rest) rest) [ true ↦ λ f. f refl | false ↦ λ f. ap (λ xs. e ∷ xs) below ] found
