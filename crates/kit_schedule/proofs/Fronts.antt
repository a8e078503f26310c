-- The first words of a schedule with their entries, and what the others add.
use Rattle.std.proofs.Common.{◌≡◌, ℕ, ◌+◌, ◌-◌, ◌*◌, ◌<◌, ◌≤◌, List, [], ◌∷◌, ◌++◌, length, get_or, drop, refl, sym, ap, subst, ◌∙◌, arith, length-append}
use Rattle.std.proofs.lemmas.List.{append_assoc, append-nil, at_drop_more, at_drop_all}
use Rattle.kit_schedule.specs.Schedules.{AreScheduleWords, IsRepetition, IsSchedule, IsScheduleWord, entries_of}
use Rattle.kit_schedule.proofs.Words.{length-entries_of, repetition_same}

-- words have one list of entries
pub word_same : (word a b : List ℕ) → IsScheduleWord word a → IsScheduleWord word b → a ≡ b
word_same word a b x y =
    let same = repetition_same word x.letters y.letters x.times y.times x.repetition y.repetition in
    x.entries_are ∙ ap (λ n. entries_of n x.letters) same.0 ∙ ap (entries_of y.times) same.1 ∙ sym y.entries_are

pub words_same : (words : List (List ℕ)) (a b : List ℕ) → AreScheduleWords words a → AreScheduleWords words b → a ≡ b
words_same [] a b x y = x ∙ sym y
words_same (word ∷ words) a b x y =
    let first : x.0 ≡ y.0 = word_same word x.0 y.0 x.2 y.2 in
    let rest : x.1 ≡ y.1 = words_same words x.1 y.1 x.3 y.3 in
    x.4 ∙ ap (λ xs. xs ++ x.1) first ∙ ap (λ xs. y.0 ++ xs) rest ∙ sym y.4

-- the entries of the first i words
pub record IsFront (words : List (List ℕ)) (i : ℕ) (done : List ℕ) : Type 0 where
  pub onward : (rest : List ℕ) → AreScheduleWords (drop i words) rest → AreScheduleWords words (done ++ rest)
  pub back : (entries : List ℕ) → AreScheduleWords words entries → (rest : List ℕ) × (entries ≡ done ++ rest) × AreScheduleWords (drop i words) rest

pub front_none : (words : List (List ℕ)) → IsFront words 0 []
front_none words = record { onward = λ rest h. h; back = λ entries h. (entries, refl, h) }

next_word : (words : List (List ℕ)) (i : ℕ) (word : List ℕ) → i < length words → word ≡ get_or words i word → drop i words ≡ word ∷ drop (i + 1) words
next_word words i word h e = at_drop_more (λ xs. xs) words i word h ∙ ap (λ x. x ∷ drop (i + 1) words) (sym e)

pub front_more : (words : List (List ℕ)) (i : ℕ) (done word first : List ℕ) → i < length words → word ≡ get_or words i word → IsScheduleWord word first → IsFront words i done → IsFront words (i + 1) (done ++ first)
front_more words i done word first h e is front =
    let next : drop i words ≡ word ∷ drop (i + 1) words = next_word words i word h e in
    record {
      onward = λ rest more.
          (let here : AreScheduleWords (drop i words) (first ++ rest) = subst (λ (ws : List (List ℕ)). AreScheduleWords ws (first ++ rest)) (sym next) (first, rest, is, more, refl) in
          subst (AreScheduleWords words) (sym (append_assoc done first rest)) (front.onward (first ++ rest) here));
      back = λ entries all.
          (let b = front.back entries all in
          let here : AreScheduleWords (word ∷ drop (i + 1) words) b.0 = subst (λ (ws : List (List ℕ)). AreScheduleWords ws b.0) next b.2 in
          let same : here.0 ≡ first = word_same word here.0 first here.2 is in
          (here.1, b.1 ∙ ap (λ xs. done ++ xs) (here.4 ∙ ap (λ xs. xs ++ here.1) same) ∙ sym (append_assoc done first here.1), here.3));
    }

pub front_whole : (words : List (List ℕ)) (i : ℕ) (done : List ℕ) → length words ≤ i → IsFront words i done → AreScheduleWords words done
front_whole words i done h front =
    let none : drop i words ≡ [] = at_drop_all (λ xs. xs) words i h in
    let here : AreScheduleWords (drop i words) [] = subst (λ (ws : List (List ℕ)). AreScheduleWords ws []) (sym none) refl in
    subst (AreScheduleWords words) (append-nil done) (front.onward [] here)

-- a schedule's next word is a schedule word, with entries for which the schedule has room
pub record HasNext (word : List ℕ) (done entries : List ℕ) : Type 0 where
  pub first : List ℕ
  pub is : IsScheduleWord word first
  pub room : length done + length first ≤ length entries

pub front_next : (words : List (List ℕ)) (i : ℕ) (done word entries : List ℕ) → i < length words → word ≡ get_or words i word → IsFront words i done → AreScheduleWords words entries → HasNext word done entries
front_next words i done word entries h e front all =
    let b = front.back entries all in
    let here : AreScheduleWords (word ∷ drop (i + 1) words) b.0 = subst (λ (ws : List (List ℕ)). AreScheduleWords ws b.0) (next_word words i word h e) b.2 in
    let size : length entries ≡ length done + (length here.0 + length here.1) =
    ap length (b.1 ∙ ap (λ xs. done ++ xs) here.4) ∙ length-append done (here.0 ++ here.1) ∙ ap (λ n. length done + n) (length-append here.0 here.1) in
    record { first = here.0; is = here.2; room = omega arith }

-- MEASURED: the first i words have so many entries, and these are not too many
pub record IsMeasured (words : List (List ℕ)) (i n : ℕ) : Type 0 where
  pub done : List ℕ
  pub front : IsFront words i done
  pub size : length done ≡ n
  pub short : n ≤ 16777216

pub measured_none : (words : List (List ℕ)) → IsMeasured words 0 0
measured_none words = record { done = []; front = front_none words; size = refl; short = omega arith }

pub measured_more : (words : List (List ℕ)) (i n added : ℕ) (word letters : List ℕ) (times : ℕ) → i < length words → word ≡ get_or words i word → IsRepetition word times letters → added ≡ times * length letters → added ≤ 16777216 - n → IsMeasured words i n → IsMeasured words (i + 1) (n + added)
measured_more words i n added word letters times h e r size small m =
    let first : List ℕ = entries_of times letters in
    let is : IsScheduleWord word first = record { times = times; letters = letters; repetition = r; entries_are = refl } in
    let many : length first ≡ times * length letters = length-entries_of times letters in
    let both : length (m.done ++ first) ≡ length m.done + length first = length-append m.done first in
    record {
      done = m.done ++ first;
      front = front_more words i m.done word first h e is m.front;
      size = omega (arith, m.size);
      short = omega (arith, m.short);
    }

-- a word with too many entries is in no schedule
pub measured_beyond : (words : List (List ℕ)) (i n : ℕ) (word letters : List ℕ) (times : ℕ) → i < length words → word ≡ get_or words i word → IsRepetition word times letters → 16777216 < n + times * length letters → IsMeasured words i n
    → (entries : List ℕ) → IsSchedule words entries → ⊥
measured_beyond words i n word letters times h e r large m entries s =
    let next = front_next words i m.done word entries h e m.front s.words_are in
    let same : next.first ≡ entries_of times letters = word_same word next.first (entries_of times letters) next.is (record { times = times; letters = letters; repetition = r; entries_are = refl }) in
    let many : length next.first ≡ times * length letters = ap length same ∙ length-entries_of times letters in
    absurd (omega (arith, next.room, m.size, s.short))

-- nor is a word that is none
pub front_stops : (words : List (List ℕ)) (i : ℕ) (done word : List ℕ) → i < length words → word ≡ get_or words i word → ((times : ℕ) (letters : List ℕ) → IsRepetition word times letters → ⊥) → IsFront words i done
    → (entries : List ℕ) → IsSchedule words entries → ⊥
front_stops words i done word h e none front entries s =
    let next = front_next words i done word entries h e front s.words_are in
    none next.is.times next.is.letters next.is.repetition

pub measured_whole : (words : List (List ℕ)) (i n : ℕ) → length words ≤ i → IsMeasured words i n → (entries : List ℕ) × IsSchedule words entries × (length entries ≡ n)
measured_whole words i n h m =
    (m.done, record { words_are = front_whole words i m.done h m.front; short = omega (arith, m.size, m.short) }, m.size)

pub schedule_whole : (words : List (List ℕ)) (i : ℕ) (done other : List ℕ) → length words ≤ i → IsFront words i done → IsSchedule words other → IsSchedule words done
schedule_whole words i done other h front s =
    let all : AreScheduleWords words done = front_whole words i done h front in
    subst (IsSchedule words) (words_same words other done s.words_are all) s
