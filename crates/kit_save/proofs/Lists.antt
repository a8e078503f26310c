-- Lists that are written member by member are read again so.
use Rattle.std.proofs.Common.{◌≡◌, ℕ, zero, suc, ◌+◌, List, [], ◌∷◌, ◌++◌, length, map, Some, Ok, refl, sym, ap, subst, ◌∙◌, arith}
use Rattle.std.proofs.lemmas.List.{append_assoc, append-nil, length-append, length-map}
use Rattle.std.specs.List.{All, AllPairs}
use Rattle.std.proofs.lemmas.List.Elements.{All-nil, All-cons, All-head, All-tail}
use Rattle.serde_json.specs.Data.{Data}
use Rattle.serde_json.specs.Find.{get, as_str}
use Rattle.serde_json.specs.View.{items_of}
use Rattle.kit_walk.specs.Paths.{item_path}
use Rattle.kit_walk.specs.Reading.{Answer, ◌>>=◌, within, each}
use Rattle.kit_walk.specs.Places.{member, text, data_of}
use Rattle.kit_file.specs.Ranges.{TakesLists}
use Rattle.kit_save.specs.Values.{list_value}

-- what holds of each holds of one in the middle
pub middle : {X : Type 0} (P : X → Type 0) (before : List X) (x : X) (after : List X) → All P (before ++ x ∷ after) → P x
middle P [] x after h = All-head P x after h
middle P (b ∷ before) x after h = middle P before x after (All-tail P b (before ++ x ∷ after) h)

-- each of two facts that hold of each
pub all_both : {X : Type 0} (P Q : X → Type 0) (xs : List X) → All P xs → All Q xs → All (λ x. P x × Q x) xs
all_both P Q xs h k i d lt = (h i d lt, k i d lt)

-- what holds of each two holds of each two behind the first
pub pairs_tail : {X : Type 0} (R : X → X → Type 0) (x : X) (xs : List X) → AllPairs R (x ∷ xs) → AllPairs R xs
pairs_tail R x xs h i j d lt len = h (suc i) (suc j) d (omega (arith, lt)) (omega (arith, len))

-- and of each before one, with it
pub pairs_before : {X : Type 0} (R : X → X → Type 0) (before : List X) (x : X) (after : List X) → AllPairs R (before ++ x ∷ after) → All (λ b. R b x) before
pairs_before R [] x after h = All-nil (λ b. R b x)
pairs_before R (b ∷ before) x after h =
    let later : All (R b) (before ++ x ∷ after) = λ k d lt. h zero (suc k) d (omega arith) (omega (arith, lt)) in
    All-cons (λ c. R c x) b before (middle (R b) before x after later) (pairs_before R before x after (pairs_tail R b (before ++ x ∷ after) h))

-- two steps that give values one after the other
pub both : {A B : Type 0} (r : Answer A) (x : A) (next : A → Answer B) (y : B) → r ≡ Ok x → next x ≡ Ok y → (r >>= next) ≡ Ok y
both r x next y first second = ap (λ t. t >>= next) first ∙ second

-- what stands at a key
pub member_read : (key : List ℕ) (d v : Data) → get key d ≡ Some v → member key d ≡ Ok v
unfolding member
member_read key d v e = rw e refl

-- a text at a key
pub text_read : (key : List ℕ) (d v : Data) (s : List ℕ) → get key d ≡ Some v → as_str v ≡ Some s → text key d ≡ Ok s
unfolding text member
text_read key d v s e is = rw (e, is) refl

-- one more member, seen from further out
pub one_more : {X : Type 0} (front : List ℕ) (r : Answer X) (done : List X) (x : X) → r ≡ Ok x → (within front r >>= λ y. Ok (done ++ y ∷ [])) ≡ Ok (done ++ x ∷ [])
one_more front r done x e = ap (λ t. within front t >>= λ y. Ok (done ++ y ∷ [])) e

-- an array of data, as a list again
pub data_of_items : (ds : List Data) → data_of (items_of ds) ≡ ds
data_of_items [] = refl
data_of_items (d ∷ ds) = ap (λ es. d ∷ es) (data_of_items ds)

-- as long as what was written
length_of_items : {X : Type 0} (value : X → Data) (xs : List X) → length (data_of (items_of (map value xs))) ≡ length xs
length_of_items value xs = ap length (data_of_items (map value xs)) ∙ length-map xs value

-- a place that takes lists of such a length takes the values that were written
pub values_read : {X : Type 0} (key : List ℕ) (Limit : ℕ → Type 0) (place : Data → Answer (List Data)) (value : X → Data) (xs : List X) (d : Data)
    → TakesLists key Limit place → get key d ≡ Some (list_value value xs) → Limit (length xs) → place d ≡ Ok (map value xs)
values_read key Limit place value xs d takes e few =
    takes d (items_of (map value xs)) (rw e refl) (subst Limit (sym (length_of_items value xs)) few) ∙ ap Ok (data_of_items (map value xs))

-- a step goes on by each member of a list from what those before it come to
abbrev pub GoesOn : {X S : Type 0} → (ℕ → S → Data → Answer S) → (X → Data) → (List X → S) → List X → Type 0
GoesOn {X} step value come whole = (before : List X) (x : X) (after : List X) → whole ≡ before ++ x ∷ after → step (length before) (come before) (value x) ≡ Ok (come (before ++ x ∷ []))

-- then reading them one by one gives what all come to
pub each_goes_on : {X S : Type 0} (step : ℕ → S → Data → Answer S) (value : X → Data) (come : List X → S) (whole done rest : List X)
    → GoesOn step value come whole → whole ≡ done ++ rest → each step (length done) (come done) (map value rest) ≡ Ok (come whole)
each_goes_on step value come whole done [] goes is = ap (λ xs. Ok (come xs)) (sym (is ∙ append-nil done))
each_goes_on step value come whole done (x ∷ rest) goes is =
    let next : suc (length done) ≡ length (done ++ x ∷ []) = sym (length-append done (x ∷ []) ∙ more (length done)) in
    let same : whole ≡ (done ++ x ∷ []) ++ rest = is ∙ sym (append_assoc done (x ∷ []) rest) in
    ap (λ r. r >>= λ t. each step (suc (length done)) t (map value rest)) (goes done x rest is)
    ∙ ap (λ i. each step i (come (done ++ x ∷ [])) (map value rest)) next
    ∙ each_goes_on step value come whole (done ++ x ∷ []) rest goes same
  where
    more : (n : ℕ) → n + 1 ≡ suc n
    more n = omega arith

-- members come to themselves
abbrev pub themselves : {X : Type 0} → List X → List X
themselves xs = xs

-- a step takes each member of a list behind those before it
abbrev pub TakesEach : {X : Type 0} → (ℕ → List X → Data → Answer (List X)) → (X → Data) → List X → Type 0
TakesEach step value whole = GoesOn step value themselves whole

-- the whole list, once its place was read
pub list_read : {X : Type 0} (place : Answer (List Data)) (step : ℕ → List X → Data → Answer (List X)) (value : X → Data) (xs : List X)
    → place ≡ Ok (map value xs) → TakesEach step value xs → (place >>= λ ds. each step 0 [] ds) ≡ Ok xs
list_read place step value xs read takes =
    ap (λ r. r >>= λ ds. each step 0 [] ds) read ∙ each_goes_on step value themselves xs [] xs takes refl

-- a step that reads each member by itself
abbrev pub by_itself : {X : Type 0} → List ℕ → (Data → Answer X) → ℕ → List X → Data → Answer (List X)
by_itself key read i done d = within (item_path key i) (read d) >>= λ x. Ok (done ++ x ∷ [])

-- takes each whose value its reader takes
pub each_by_itself : {X : Type 0} (key : List ℕ) (read : Data → Answer X) (value : X → Data) (P : X → Type 0) (xs : List X)
    → ((x : X) → P x → read (value x) ≡ Ok x) → All P xs → TakesEach (by_itself key read) value xs
each_by_itself key read value P xs takes h before x after at =
    one_more (item_path key (length before)) (read (value x)) before x (takes x (middle P before x after (subst (All P) at h)))
