-- In the midst of a merge, as lines.
use Rattle.std.proofs.Common.{◌≡◌, ◌≢◌, ℕ, ◌<◌, ◌≤◌, ◌⊎◌, ◌++◌, List, [], ◌∷◌, length, map, inl, inr, refl, sym, ap, subst, ◌∙◌, arith, slice_set, get_or-set_same, get_or-set_other}
use Rattle.std.specs.Prelude.{Option, Some, None, slice_index_or}
use Rattle.std.specs.List.{All}
use Rattle.std.proofs.Math.Seq.{get_or-append_seam}
use Rattle.std.proofs.lemmas.Option.{none-some}
use Rattle.std.proofs.lemmas.List.{length-append}
use Rattle.std.proofs.lemmas.Grind.{flat_map-append}
use Rattle.std.proofs.lemmas.List.{append-nil, get_or-map}
use mathlib.Core.Logic.{dite}
use native.Mathlib.Decide.{ℕ_discrete}
use Rattle.kit_base.specs.declared.message.Message.{Message}
use Rattle.kit_base.specs.declared.history.Line.{Line}
use Rattle.kit_base.specs.declared.history.Line.TheVariants.{Deliver, Grant}
use Rattle.kit_base.specs.declared.history.Part.{Part}
use Rattle.kit_rules.specs.Simulation.{Block, block_lines, lines_of}
use Rattle.kit_rules.specs.Merging.{IsPart, IsSooner, blocks_of}
use Rattle.kit_report.proofs.InMerge.{IsMerging, merge_ends, merge_goes_on, merge_starts}
use Rattle.kit_rules.specs.Merging.{ArePartsOf, lines_in, IsMerged, lines_at}
use Rattle.kit_report.specs.Merges.{HaveNoTime, IsSoonest, behind_grant, first_grant_time, through_grant}

-- a block's lines at the front
first_of_block : (b : Block) (ls : List Line) → first_grant_time (block_lines b ++ ls) ≡ Some b.time
first_of_block b ls = go b.delivered
  where
    go : (ms : List Message) → first_grant_time ((map (Deliver b.time b.federate) ms ++ Grant b.time b.federate ∷ []) ++ ls) ≡ Some b.time
    go [] = refl
    go (m ∷ ms) = refl

through_block : (t i : ℕ) (ms : List Message) (ls : List Line) → through_grant ((map (Deliver t i) ms ++ Grant t i ∷ []) ++ ls) ≡ map (Deliver t i) ms ++ Grant t i ∷ []
through_block t i [] ls = refl
through_block t i (m ∷ ms) ls = ap (λ (l : List Line). Deliver t i m ∷ l) (through_block t i ms ls)

behind_block : (t i : ℕ) (ms : List Message) (ls : List Line) → behind_grant ((map (Deliver t i) ms ++ Grant t i ∷ []) ++ ls) ≡ ls
behind_block t i [] ls = refl
behind_block t i (m ∷ ms) ls = behind_block t i ms ls

-- the blocks taken, the blocks left, and the lines of both; `left` are the lines that are left of each part
pub record State (parts : List Part) (blocks : List (List Block)) (left : ℕ → List Line) (lines : List Line) : Type 0 where
  pub out : List Block
  pub rest : List (List Block)
  pub merging : IsMerging blocks out rest
  pub lines_are : lines ≡ lines_of out
  pub left_are : (k : ℕ) → k < length parts → left k ≡ lines_of (slice_index_or rest k [])

abbrev pub States : List Part → (ℕ → List Line) → List Line → Type 0
States parts left lines = (blocks : List (List Block)) → ArePartsOf parts blocks → State parts blocks left lines

-- the time of the first grant that is left of each
abbrev pub times_of : (ℕ → List Line) → ℕ → Option ℕ
times_of left k = first_grant_time (left k)

no_blocks : (bs : List Block) → first_grant_time (lines_of bs) ≡ None → bs ≡ []
no_blocks [] e = refl
no_blocks (b ∷ bs) e = absurd (none-some b.time (sym e ∙ first_of_block b (lines_of bs)))

-- a list of blocks with a first time begins with a block of that time
abbrev Begins : List Block → ℕ → Type 0
Begins bs t = (b : Block) × (more : List Block) × (bs ≡ b ∷ more) × (b.time ≡ t)

some_same : (a b : ℕ) → Some a ≡ Some b → a ≡ b
some_same a b e = ap (λ (o : Option ℕ). elim o [ None ↦ a | (Some x) ↦ x ]) e

begins : (bs : List Block) (t : ℕ) → first_grant_time (lines_of bs) ≡ Some t → Begins bs t
begins [] t e = absurd (none-some t e)
begins (b ∷ bs) t e = (b, bs, refl, some_same b.time t (sym (first_of_block b (lines_of bs)) ∙ e))

pub ends : (parts : List Part) (left : ℕ → List Line) (lines : List Line) → States parts left lines → HaveNoTime (times_of left) (length parts)
    → (blocks : List (List Block)) → ArePartsOf parts blocks → IsMerged blocks lines
ends parts left lines states none blocks are =
    let s = states blocks are in
    record {
      all = s.out;
      merge = merge_ends blocks s.out s.rest s.merging (λ k lt.
          let lk : k < length parts = omega (arith, are.count) in
          no_blocks (slice_index_or s.rest k []) (sym (ap first_grant_time (s.left_are k lk)) ∙ none k lk));
      lines_are = s.lines_are;
    }

own_at : (j : ℕ) (front : List Block) (c : Block) (cs : List Block) → All (λ (b : Block). b.federate ≡ j) (front ++ c ∷ cs) → c.federate ≡ j
own_at j front c cs own =
    let long = length-append front (c ∷ cs) in
    subst (λ (b : Block). b.federate ≡ j) (get_or-append_seam front c cs c) (own (length front) c (omega arith))

-- what is left of the part k are blocks of federate k
owner : (blocks : List (List Block)) (out : List Block) (rest : List (List Block)) → IsMerging blocks out rest → ((k : ℕ) → k < length blocks → IsPart k (slice_index_or blocks k []))
    → (j : ℕ) → j < length blocks → (c : Block) (cs : List Block) → slice_index_or rest j [] ≡ c ∷ cs → c.federate ≡ j
owner blocks out rest m are j lj c cs is =
    let front = blocks_of j out in
    let own : All (λ (b : Block). b.federate ≡ j) (front ++ c ∷ cs) = subst (All (λ (b : Block). b.federate ≡ j)) (m.split j lj ∙ ap (λ (l : List Block). front ++ l) is) (are j lj).own in
    let long = length-append front (c ∷ cs) in
    own_at j front c cs own

is_first : (b c : Block) (k j : ℕ) {t : ℕ} → b.time ≡ t → b.federate ≡ k → c.federate ≡ j → j ≢ k → (t < c.time) ⊎ ((t ≡ c.time) × (k ≤ j)) → IsSooner b c
is_first b c k j bt bk cj other (inl lt) = search (arith, bt)
is_first b c k j bt bk cj other (inr e) = let x = e.0 in let y = e.1 in search (arith, bt)

pub goes_on : (parts : List Part) (left after : ℕ → List Line) (lines now : List Line) (k : ℕ) → States parts left lines → IsSoonest (times_of left) (length parts) k
    → now ≡ lines ++ through_grant (left k) → after k ≡ behind_grant (left k) → ((j : ℕ) → j < length parts → j ≢ k → after j ≡ left j)
    → States parts after now
goes_on parts left after lines now k states soonest taken rest others blocks are =
    let s = states blocks are in
    let lk = soonest.inside in
    let lb : k < length blocks = omega (arith, are.count) in
    let at = begins (slice_index_or s.rest k []) soonest.time (sym (ap first_grant_time (s.left_are k lk)) ∙ soonest.time_is) in
    let b = at.0 in
    let bs = at.1 in
    let here : left k ≡ block_lines b ++ lines_of bs = s.left_are k lk ∙ ap lines_of at.2 in
    let by : (j : ℕ) (c : Block) (cs : List Block) → j < length blocks → slice_index_or s.rest j [] ≡ c ∷ cs → c.federate ≡ j = λ j c cs lj is. owner blocks s.out s.rest s.merging are.parts_are j lj c cs is in
    let first : (j : ℕ) (c : Block) (cs : List Block) → j < length blocks → j ≢ k → slice_index_or s.rest j [] ≡ c ∷ cs → IsSooner b c = λ j c cs lj other is.
    let lj' : j < length parts = omega (arith, are.count) in
    let time : times_of left j ≡ Some c.time = ap first_grant_time (s.left_are j lj' ∙ ap lines_of is) ∙ first_of_block c (lines_of cs) in
    is_first b c k j at.3 (by k b bs lb at.2) (by j c cs lj is) other (soonest.least j c.time lj' time) in
    record {
      out = s.out ++ b ∷ [];
      rest = slice_set s.rest k bs;
      merging = merge_goes_on blocks are.parts_are s.out s.rest s.merging k lb b bs at.2 first;
      lines_are = taken ∙ (ap (λ (l : List Line). lines ++ through_grant l) here ∙ (ap (λ (l : List Line). lines ++ l) (through_block b.time b.federate b.delivered (lines_of bs))
          ∙ (ap (λ (l : List Line). l ++ block_lines b) s.lines_are ∙ sym (flat_map-append block_lines s.out (b ∷ []) ∙ ap (λ (l : List Line). lines_of s.out ++ l) (append-nil (block_lines b))))));
      left_are = λ j lj. dite (ℕ_discrete j k)
          (λ same.
          let lr : k < length s.rest = let n = s.merging.count in omega arith in
          ap after same ∙ (rest ∙ (ap behind_grant here ∙ (behind_block b.time b.federate b.delivered (lines_of bs)
          ∙ (ap lines_of (sym (get_or-set_same s.rest k bs [] lr)) ∙ ap (λ (x : ℕ). lines_of (slice_index_or (slice_set s.rest k bs) x [])) (sym same))))))
          (λ other. others j lj other ∙ (s.left_are j lj ∙ ap lines_of (sym (get_or-set_other s.rest k j bs [] other))));
    }

pub part_lines : (parts : List Part) (k : ℕ) (p : Part) → k < length parts → p ≡ slice_index_or parts k p → lines_at parts k ≡ p.lines
part_lines parts k p lt is = get_or-map lines_in parts k p [] lt ∙ ap lines_in (sym is)

-- nothing was taken
pub begins_all : (parts : List Part) (left : ℕ → List Line) (lines : List Line) → ((k : ℕ) → k < length parts → left k ≡ lines_at parts k) → lines ≡ [] → States parts left lines
begins_all parts left lines all none blocks are = record {
  out = [];
  rest = blocks;
  merging = merge_starts blocks;
  lines_are = none;
  left_are = λ k lt. all k lt ∙ are.lines k lt;
}
