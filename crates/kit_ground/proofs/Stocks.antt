-- What the stocks are after the seat `me` changed its own.
use Rattle.std.proofs.Common.{◌≡◌, ◌≢◌, ℕ, ◌<◌, List, length, refl, sym, ap, ◌∙◌, subst}
use Rattle.std.proofs.lemmas.List.{get_or-set_other, get_or-set_same}
use Rattle.std.specs.Prelude.{slice_index, slice_set}
use mathlib.Core.Logic.{dite}
use native.Mathlib.Decide.{ℕ_discrete}
use Rattle.kit_ground.specs.declared.place.Buffer.{Buffer}
use Rattle.kit_ground.specs.declared.place.SeatBuffers.{SeatBuffers}
use Rattle.kit_ground.specs.Steps.{fresh_buffer, buffer_of, with_buffer}
use Rattle.kit_ground.specs.Sets.{no_buffers, stock_at}

pub stock_here : (stocks : List SeatBuffers) (me : ℕ) (q : SeatBuffers) → me < length stocks → stock_at (slice_set stocks me q) me ≡ q
stock_here stocks me q inside = get_or-set_same stocks me q no_buffers inside

pub stock_else : (stocks : List SeatBuffers) (me i : ℕ) (q : SeatBuffers) → i ≢ me → stock_at (slice_set stocks me q) i ≡ stock_at stocks i
stock_else stocks me i q apart = get_or-set_other stocks me i q no_buffers apart

-- a fact about each stock, after the change
pub of_each : (F : ℕ → SeatBuffers → Type 0) (stocks : List SeatBuffers) (me : ℕ) (q : SeatBuffers) → me < length stocks → F me q → ((i : ℕ) → i ≢ me → F i (stock_at stocks i)) → (i : ℕ) → F i (stock_at (slice_set stocks me q) i)
of_each F stocks me q inside mine others i = dite (ℕ_discrete i me)
    (λ same. subst (λ (x : ℕ). F x (stock_at (slice_set stocks me q) x)) (sym same) (subst (F me) (sym (stock_here stocks me q inside)) mine))
    (λ apart. subst (F i) (sym (stock_else stocks me i q apart)) (others i apart))

-- the stock s with the mask v of held buffers of `from`
abbrev pub with_held : ℕ → ℕ → SeatBuffers → SeatBuffers
with_held from v s = record s { holds = slice_set s.holds from v }

-- s is the stock of the seat `me`, whose buffer k becomes c
abbrev pub rebuffered : List SeatBuffers → ℕ → SeatBuffers → ℕ → Buffer → List SeatBuffers
rebuffered stocks me s k c = slice_set stocks me (with_buffer k c s)

-- whose mask of the buffers of `from` becomes v
abbrev pub reheld : List SeatBuffers → ℕ → SeatBuffers → ℕ → ℕ → List SeatBuffers
reheld stocks me s from v = slice_set stocks me (with_held from v s)

module _ (stocks : List SeatBuffers) (me : ℕ) (s : SeatBuffers) (is : stock_at stocks me ≡ s) (inside : me < length stocks) where
  module _ (k : ℕ) (c : Buffer) where
    abbrev now : List SeatBuffers
    now = rebuffered stocks me s k c

    pub holds_kept : (j : ℕ) → (stock_at now j).holds ≡ (stock_at stocks j).holds
    holds_kept = of_each (λ i q. q.holds ≡ (stock_at stocks i).holds) stocks me (with_buffer k c s) inside (ap (λ (q : SeatBuffers). q.holds) (sym is)) (λ i apart. refl)

    pub buffer_here : k < length s.buffers → buffer_of (stock_at now me) k ≡ c
    buffer_here within = ap (λ (q : SeatBuffers). buffer_of q k) (stock_here stocks me (with_buffer k c s) inside) ∙ get_or-set_same s.buffers k c fresh_buffer within

    pub buffer_else : (i x : ℕ) → (i ≡ me → x ≢ k) → buffer_of (stock_at now i) x ≡ buffer_of (stock_at stocks i) x
    buffer_else i x = of_each (λ i q. (i ≡ me → x ≢ k) → buffer_of q x ≡ buffer_of (stock_at stocks i) x) stocks me (with_buffer k c s) inside
        (λ apart. get_or-set_other s.buffers k x c fresh_buffer (apart refl) ∙ ap (λ (q : SeatBuffers). buffer_of q x) (sym is)) (λ i apart _. refl) i

  module _ (from v : ℕ) where
    abbrev held : SeatBuffers
    held = with_held from v s

    abbrev after : List SeatBuffers
    after = reheld stocks me s from v

    pub buffers_kept : (i x : ℕ) → buffer_of (stock_at after i) x ≡ buffer_of (stock_at stocks i) x
    buffers_kept i x = of_each (λ i q. buffer_of q x ≡ buffer_of (stock_at stocks i) x) stocks me held inside (ap (λ (q : SeatBuffers). buffer_of q x) (sym is)) (λ i apart. refl) i

    pub holds_here : from < length s.holds → slice_index (stock_at after me).holds from ≡ v
    holds_here within = ap (λ (q : SeatBuffers). slice_index q.holds from) (stock_here stocks me held inside) ∙ get_or-set_same s.holds from v 0 within

    pub holds_else : (j i : ℕ) → (j ≡ me → i ≢ from) → slice_index (stock_at after j).holds i ≡ slice_index (stock_at stocks j).holds i
    holds_else j i = of_each (λ j q. (j ≡ me → i ≢ from) → slice_index q.holds i ≡ slice_index (stock_at stocks j).holds i) stocks me held inside
        (λ apart. get_or-set_other s.holds from i v 0 (apart refl) ∙ ap (λ (q : SeatBuffers). slice_index q.holds i) (sym is)) (λ j apart _. refl) j
