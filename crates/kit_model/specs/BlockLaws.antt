-- Laws of the blocks of a butterfly, and of their values.
use Rattle.std.specs.Prelude.{◌≡◌, ℕ, ◌+◌, ◌*◌, ◌<◌, ◌≤◌, ◌==◌, ◌&&◌, ◌||◌, nat_lt, Bool, true, false, IsTrue, if◌then◌else◌, List, [], ◌∷◌, ◌++◌, filter}
use Rattle.kit_model.specs.declared.share.Share.{Share}
use Rattle.kit_model.specs.Shares.{share_sum}
use Rattle.kit_model.specs.Blocks.{stages, width, place_of, partner_of, in_block, everybody, block, share_sum_over, stage_value, round_result}

-- the width is the greatest power of two that is not above the number of federates
abbrev pub WidthIsGreatest : Type 0
WidthIsGreatest = (n : ℕ) → 1 ≤ n → (width n ≤ n) × (n < 2 * width n)

-- two blocks of a stage are equal or share nobody
abbrev pub BlocksAreApart : Type 0
BlocksAreApart = (n stage x y z : ℕ) → IsTrue (in_block n stage x z) → IsTrue (in_block n stage y z) → block n stage x ≡ block n stage y

-- everybody is in a block of each stage
abbrev pub EverybodyIsIn : Type 0
EverybodyIsIn = (n stage y : ℕ) → y < n → (place_of n y < width n) × IsTrue (in_block n stage (place_of n y) y)

-- at the first stage the block of x is x and the outer federate that x stands for, if there is one
abbrev pub FirstBlock : Type 0
FirstBlock = (n x y : ℕ) → x < width n → in_block n 0 x y ≡ (nat_lt y n && ((y == x) || (y == width n + x)))

-- the blocks of x and its partner at a stage make up the block of x at the next
abbrev pub NextBlock : Type 0
NextBlock = (n stage x y : ℕ) → in_block n (stage + 1) x y ≡ (in_block n stage x y || in_block n stage (partner_of stage x) y)

-- they share nobody
abbrev pub PartnersAreApart : Type 0
PartnersAreApart = (n stage x y : ℕ) → (in_block n stage x y && in_block n stage (partner_of stage x) y) ≡ false

-- the partner is below the width too
abbrev pub PartnersAreWithin : Type 0
PartnersAreWithin = (n stage x : ℕ) → x < width n → stage < stages n → partner_of stage x < width n

-- and x is its partner's partner
abbrev pub PartnersAreMutual : Type 0
PartnersAreMutual = (stage x : ℕ) → partner_of stage (partner_of stage x) ≡ x

-- after the last stage the block is everybody
abbrev pub LastBlock : Type 0
LastBlock = (n x : ℕ) → 1 ≤ n → x < width n → block n (stages n) x ≡ everybody n

-- the share of one federate is its own
abbrev pub OneShare : Type 0
OneShare = (share : ℕ → Share) (x : ℕ) → share_sum_over share x (x ∷ []) ≡ share x

-- the shares of one federate more are joined with its own
abbrev pub OneMoreShare : Type 0
OneMoreShare = (share : ℕ → Share) (one y : ℕ) (ys : List ℕ) → share_sum_over share one (ys ++ y ∷ []) ≡ share_sum (share_sum_over share one ys) (share y)

-- the shares of two sets of federates that have nobody in common are joined
abbrev pub GroupsJoin : Type 0
GroupsJoin = (n : ℕ) (share : ℕ → Share) (p q : ℕ → Bool) (x y : ℕ) → y < n → q y ≡ true → ((z : ℕ) → (p z && q z) ≡ false)
    → share_sum_over share x (filter (λ z. p z || q z) (everybody n)) ≡ share_sum (share_sum_over share x (filter p (everybody n))) (share_sum_over share y (filter q (everybody n)))

-- the shares together depend on those of the set alone
abbrev pub GroupsDecide : Type 0
GroupsDecide = (n : ℕ) (share other : ℕ → Share) (p : ℕ → Bool) (x : ℕ) → share x ≡ other x → ((y : ℕ) → y < n → p y ≡ true → share y ≡ other y)
    → share_sum_over share x (filter p (everybody n)) ≡ share_sum_over other x (filter p (everybody n))

-- a set's counts are no greater than everybody's, and its low is no greater than that of one of them
abbrev pub GroupsStayWithin : Type 0
GroupsStayWithin = (n : ℕ) (share : ℕ → Share) (p : ℕ → Bool) (x : ℕ) → let together = share_sum_over share x (filter p (everybody n)) in
    (together.out ≤ (round_result n share).out) × (together.inn ≤ (round_result n share).inn) × (together.low ≤ (share x).low)

-- at the first stage the value of x is its own share, joined with that of the outer federate that it stands for
abbrev pub FirstValue : Type 0
FirstValue = (n : ℕ) (share : ℕ → Share) (x : ℕ) → 1 ≤ n → x < width n
    → stage_value n share 0 x ≡ (if nat_lt (width n + x) n then share_sum (share x) (share (width n + x)) else share x)

-- the next value of x is its value, joined with that of its partner
abbrev pub NextValue : Type 0
NextValue = (n : ℕ) (share : ℕ → Share) (stage x : ℕ) → 1 ≤ n → x < width n → stage < stages n
    → stage_value n share (stage + 1) x ≡ share_sum (stage_value n share stage x) (stage_value n share stage (partner_of stage x))

-- after the last stage the value is the result of the round
abbrev pub LastValue : Type 0
LastValue = (n : ℕ) (share : ℕ → Share) (x : ℕ) → 1 ≤ n → x < width n → stage_value n share (stages n) x ≡ round_result n share

-- a value depends on the contributions of its block alone
abbrev pub BlockDecides : Type 0
BlockDecides = (n : ℕ) (share other : ℕ → Share) (stage x : ℕ) → 1 ≤ n → x < width n
    → ((y : ℕ) → y < n → in_block n stage x y ≡ true → share y ≡ other y)
    → stage_value n share stage x ≡ stage_value n other stage x

-- the blocks of six federates: 4 and 5 stand with 0 and 1
abbrev pub BlocksOfSix : Type 0
BlocksOfSix = (block 6 0 1 ≡ 1 ∷ 5 ∷ []) × (block 6 0 2 ≡ 2 ∷ []) × (block 6 1 0 ≡ 0 ∷ 1 ∷ 4 ∷ 5 ∷ []) × (block 6 2 3 ≡ everybody 6)
