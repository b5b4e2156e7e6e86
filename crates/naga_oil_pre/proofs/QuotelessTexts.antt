-- Texts without `"`, and their covered lines.
use Rattle.std.proofs.Common.{◌≡◌, ℕ, zero, suc, ◌+◌, ◌-◌, ◌<◌, ◌≤◌, ◌/◌, ◌&&◌, Bool, true, false, cond, eqb, ltb, Option, Some, None, List, [], ◌∷◌, ◌++◌, length, replicate, take, drop, refl, sym, ap, subst, ◌∙◌, ⊎_elim, arith, append-nil}
use borrow.Author.Tests.{eqb-true, ne_eqb, le-ltb}
use lib.Utf8.{encode, encodes, scalar, scalars, next}
use lib.Seq.{take_all}
use Rattle.std.specs.Prelude.{All}
use Rattle.std.specs.List.{AllByRecursion}
use Rattle.std.specs.Str.{IsUtf8, NonePass, NoCharPasses, chars}
use Rattle.std.specs.Str.Lines.{lines}
use Rattle.std.proofs.lemmas.Bool.{and_parts, cases_lt}
use Rattle.std.proofs.lemmas.Str.{IsUtf8-append, IsUtf8-take, IsCharBoundary-before_ascii, encode_ascii, encodes-append, encodes_same, chars_from_encodes, char_from_byte}
use Rattle.std.proofs.lemmas.List.{take_more}
use Rattle.std.proofs.lemmas.List.Elements.{All-cons, All-nil, All-head, All-tail}
use Rattle.naga_oil_lines.specs.declared.comment_strip_iter.CommentState.{CommentState}
use Rattle.naga_oil_lines.specs.declared.comment_strip_iter.CommentState.TheVariants.{Code, Block, Quote}
use Rattle.naga_oil_lines.specs.declared.comment_strip_iter.Mark.{Mark}
use Rattle.naga_oil_lines.specs.declared.comment_strip_iter.Mark.TheVariants.{LineComment, Open, Close, DoubleQuote}
use Rattle.naga_oil_lines.specs.Cover.{Covered, with_front, spaces, plain, deeper, shallower, past_quote, mark_at, cover}
use Rattle.naga_oil_lines.specs.CoveredLines.{covered_lines}
use Rattle.naga_oil_conditions.specs.Line.{Line, placed, next_place, source_lines}
use Rattle.naga_oil_pre.proofs.LineParts.{KeepsFront, holds_of_lines}

abbrev is_quote : ℕ → Bool
is_quote c = eqb c 34

-- a text without `"`, in UTF-8
abbrev pub Quoteless : List ℕ → Type 0
Quoteless text = (cs : List ℕ) × ((scalars cs ≡ true) × ((encodes cs ≡ text) × NonePass (λ c. eqb c 34) cs))

utf8_of : (text : List ℕ) → Quoteless text → IsUtf8 text
utf8_of text q = (q.0, (q.1.0, q.1.1.0))

-- its characters
pub none_quoted : (text : List ℕ) → Quoteless text → NonePass (λ c. eqb c 34) (chars text)
none_quoted text q = subst (NonePass is_quote) (chars_from_encodes q.0 text (utf8_of text q) q.1.1.0) q.1.1.1

none_in_both : (cs ds : List ℕ) → NonePass is_quote cs → NonePass is_quote ds → NonePass is_quote (cs ++ ds)
none_in_both [] ds f g = g
none_in_both (c ∷ cs) ds f g = (f.0, none_in_both cs ds f.1 g)

none_in_left : (cs ds : List ℕ) → NonePass is_quote (cs ++ ds) → NonePass is_quote cs
none_in_left [] ds f = tt
none_in_left (c ∷ cs) ds f = (f.0, none_in_left cs ds f.1)

pub both : (xs ys : List ℕ) → Quoteless xs → Quoteless ys → Quoteless (xs ++ ys)
both xs ys p q =
    let u = IsUtf8-append xs ys (utf8_of xs p) (utf8_of ys q) in
    let same : p.0 ++ q.0 ≡ u.0 = encodes_same (p.0 ++ q.0) u.0 (encodes-append p.0 q.0 ∙ (λ i. p.1.1.0 i ++ q.1.1.0 i) ∙ sym u.1.1) in
    (u.0, (u.1.0, (u.1.1, subst (NonePass is_quote) same (none_in_both p.0 q.0 p.1.1.1 q.1.1.1))))

pub empty : Quoteless []
empty = ([], (refl, (refl, tt)))

one_character : (c : ℕ) → scalar c ≡ true → is_quote c ≡ false → Quoteless (encode c)
one_character c s n = (c ∷ [], (ap (λ t. t && true) s, (append-nil (encode c), (n, tt))))

one_space : Quoteless (32 ∷ [])
unfolding encode
one_space = (32 ∷ [], (refl, (refl, (refl, tt))))

pub one_end : Quoteless (10 ∷ [])
unfolding encode
one_end = (10 ∷ [], (refl, (refl, (refl, tt))))

all_spaces : (n : ℕ) → Quoteless (replicate n 32)
all_spaces zero = empty
all_spaces (suc n) = both (32 ∷ []) (replicate n 32) one_space (all_spaces n)

-- ---- lines
quoteless_front : KeepsFront Quoteless
quoteless_front text some last h =
    let n : ℕ = length text - 1 in
    let u = IsUtf8-take text n (utf8_of text h) (IsCharBoundary-before_ascii text n (omega arith) (omega arith)) in
    let whole : text ≡ take n text ++ 13 ∷ [] =
    sym (take_all (n + 1) text (omega arith)) ∙ take_more text n 0 (omega arith) ∙ ap (λ b. take n text ++ b ∷ []) last in
    let spelled : h.0 ≡ u.0 ++ 13 ∷ [] =
    encodes_same h.0 (u.0 ++ 13 ∷ []) (h.1.1.0 ∙ whole ∙ sym (encodes-append u.0 (13 ∷ []) ∙ (λ i. u.1.1 i ++ (append-nil (encode 13) ∙ encode_ascii 13 (omega arith)) i))) in
    (u.0, (u.1.0, (u.1.1, none_in_left u.0 (13 ∷ []) (subst (NonePass is_quote) spelled h.1.1.1))))

each_quoteless : (cs : List ℕ) → scalars cs ≡ true → NonePass is_quote cs → AllByRecursion (λ c. eqb c 10 ≡ false → Quoteless (encode c)) cs
each_quoteless [] s f = tt
each_quoteless (c ∷ cs) s f = let each = and_parts (scalar c) (scalars cs) s in ((λ e. one_character c each.0 f.0), each_quoteless cs each.1 f.1)

lines_quoteless : (text : List ℕ) → Quoteless text → All Quoteless (lines text)
lines_quoteless text q =
    subst (λ t. All Quoteless (lines t)) q.1.1.0 (holds_of_lines Quoteless empty both quoteless_front q.0 (each_quoteless q.0 q.1.0 q.1.1.1))

-- ---- covered lines
abbrev AreHigh : List ℕ → Type 0
AreHigh [] = Unit {0}
AreHigh (b ∷ bs) = (128 ≤ b) × AreHigh bs

-- the bytes of a character beyond ASCII
high_bytes : (c : ℕ) → 128 ≤ c → AreHigh (encode c)
unfolding encode
high_bytes c high =
    rw (le-ltb c 128 high) (elim (ltb c 2048) as (λ t. AreHigh (cond t ((192 + c / 64) ∷ next c ∷ []) (cond (ltb c 65536) ((224 + c / 4096) ∷ next (c / 64) ∷ next c ∷ []) ((240 + c / 262144) ∷ next (c / 4096) ∷ next (c / 64) ∷ next c ∷ [])))) [
      | true ↦ (omega arith, (omega arith, tt))
      | false ↦ elim (ltb c 65536) as (λ t. AreHigh (cond t ((224 + c / 4096) ∷ next (c / 64) ∷ next c ∷ []) ((240 + c / 262144) ∷ next (c / 4096) ∷ next (c / 64) ∷ next c ∷ []))) [
        | true ↦ (omega arith, (omega arith, (omega arith, tt)))
        | false ↦ (omega arith, (omega arith, (omega arith, (omega arith, tt))))
      ]
    ])

no_mark : (s : CommentState) (b : ℕ) (bs : List ℕ) → 128 ≤ b → mark_at s (b ∷ bs) ≡ None
no_mark Code b bs high = rw (ne_eqb b 47 (λ e. absurd (omega arith)), ne_eqb b 34 (λ e. absurd (omega arith))) refl
no_mark (Block depth) b bs high = rw (ne_eqb b 47 (λ e. absurd (omega arith)), ne_eqb b 42 (λ e. absurd (omega arith))) refl
no_mark Quote b bs high = rw (ne_eqb b 34 (λ e. absurd (omega arith))) refl

-- the steps of `cover`, by the mark
abbrev last_covered : CommentState → ℕ → Option Mark → Covered
last_covered s a o = elim o [ None ↦ with_front (plain s (a ∷ [])) ([], s) | Some m ↦ with_front (a ∷ []) ([], past_quote s) ]

abbrev first_covered : CommentState → (a b : ℕ) → List ℕ → Option Mark → Covered
first_covered s a b bs o = elim o [
  | None ↦ with_front (plain s (a ∷ [])) (cover s (b ∷ bs))
  | Some LineComment ↦ with_front (spaces (length (a ∷ b ∷ bs))) ([], s)
  | Some Open ↦ with_front (spaces 2) (cover (deeper s) bs)
  | Some Close ↦ with_front (spaces 2) (cover (shallower s) bs)
  | Some DoubleQuote ↦ with_front (a ∷ []) (cover (past_quote s) (b ∷ bs))
]

plain_first : (s : CommentState) (b : ℕ) (bs ys : List ℕ) → plain s (b ∷ []) ++ (plain s bs ++ ys) ≡ plain s (b ∷ bs) ++ ys
plain_first Code b bs ys = refl
plain_first (Block depth) b bs ys = refl
plain_first Quote b bs ys = refl

-- bytes beyond ASCII are plain
cover_high : (s : CommentState) (xs ys : List ℕ) → AreHigh xs → (cover s (xs ++ ys)).0 ≡ plain s xs ++ (cover s ys).0
unfolding cover
cover_high Code [] ys h = refl
cover_high (Block depth) [] ys h = refl
cover_high Quote [] ys h = refl
cover_high s (x ∷ xs) ys h = go (xs ++ ys) refl (cover_high s xs ys h.1)
  where
    go : (zs : List ℕ) → xs ++ ys ≡ zs → (cover s (xs ++ ys)).0 ≡ plain s xs ++ (cover s ys).0 → (cover s (x ∷ zs)).0 ≡ plain s (x ∷ xs) ++ (cover s ys).0
    go [] e rest = ap (λ o. (last_covered s x o).0) (no_mark s x [] h.0) ∙ ap (λ zs. plain s (x ∷ []) ++ (cover s zs).0) (sym e) ∙ ap (λ v. plain s (x ∷ []) ++ v) rest ∙ plain_first s x xs (cover s ys).0
    go (z ∷ zs) e rest = ap (λ o. (first_covered s x z zs o).0) (no_mark s x (z ∷ zs) h.0) ∙ ap (λ zs. plain s (x ∷ []) ++ (cover s zs).0) (sym e) ∙ ap (λ v. plain s (x ∷ []) ++ v) rest ∙ plain_first s x xs (cover s ys).0

plain_quoteless : (s : CommentState) (bs : List ℕ) → Quoteless bs → Quoteless (plain s bs)
plain_quoteless Code bs h = h
plain_quoteless (Block depth) bs h = all_spaces (length bs)
plain_quoteless Quote bs h = h

last_quoteless : (s : CommentState) (a : ℕ) → Quoteless (a ∷ []) → (o : Option Mark) → Quoteless (last_covered s a o).0
last_quoteless s a h None = both (plain s (a ∷ [])) [] (plain_quoteless s (a ∷ []) h) empty
last_quoteless s a h (Some m) = h

-- an opening or closing mark has two bytes
abbrev IsWide : Option Mark → Type 0
IsWide None = ⊥
IsWide (Some LineComment) = ⊥
IsWide (Some Open) = Unit {0}
IsWide (Some Close) = Unit {0}
IsWide (Some DoubleQuote) = ⊥

second_byte : (a b c d : ℕ) → (eqb a c && eqb b d) ≡ true → d < 128 → b < 128
second_byte a b c d e low = let same = eqb-true b d (and_parts (eqb a c) (eqb b d) e).1 in omega arith

wide_low : (s : CommentState) (a b : ℕ) (bs : List ℕ) → IsWide (mark_at s (a ∷ b ∷ bs)) → b < 128
wide_low Code a b bs w =
    elim (eqb a 47 && eqb b 47) as (λ t. (eqb a 47 && eqb b 47) ≡ t → IsWide (cond t (Some LineComment) (cond (eqb a 47 && eqb b 42) (Some Open) (cond (eqb a 34) (Some DoubleQuote) None))) → b < 128) [
      | true ↦ λ e v. absurd v
      | false ↦ λ e v. elim (eqb a 47 && eqb b 42) as (λ t. (eqb a 47 && eqb b 42) ≡ t → IsWide (cond t (Some Open) (cond (eqb a 34) (Some DoubleQuote) None)) → b < 128) [
        | true ↦ λ f v. second_byte a b 47 42 f (omega arith)
        | false ↦ λ f v. elim (eqb a 34) as (λ t. IsWide (cond t (Some DoubleQuote) None) → b < 128) [ true ↦ λ v. absurd v | false ↦ λ v. absurd v ] v
      ] refl v
    ] refl w
wide_low (Block depth) a b bs w =
    elim (eqb a 47 && eqb b 42) as (λ t. (eqb a 47 && eqb b 42) ≡ t → IsWide (cond t (Some Open) (cond (eqb a 42 && eqb b 47) (Some Close) None)) → b < 128) [
      | true ↦ λ e v. second_byte a b 47 42 e (omega arith)
      | false ↦ λ e v. elim (eqb a 42 && eqb b 47) as (λ t. (eqb a 42 && eqb b 47) ≡ t → IsWide (cond t (Some Close) None) → b < 128) [
        | true ↦ λ f v. second_byte a b 42 47 f (omega arith)
        | false ↦ λ f v. absurd v
      ] refl v
    ] refl w
wide_low Quote a b bs w = elim (eqb a 34) as (λ t. IsWide (cond t (Some DoubleQuote) None) → b < 128) [ true ↦ λ v. absurd v | false ↦ λ v. absurd v ] w

first_quoteless : (s : CommentState) (a b : ℕ) (bs : List ℕ) (o : Option Mark) → Quoteless (a ∷ []) → ((t : CommentState) → Quoteless (cover t (b ∷ bs)).0) → (IsWide o → (t : CommentState) → Quoteless (cover t bs).0)
    → Quoteless (first_covered s a b bs o).0
first_quoteless s a b bs None h one two = both (plain s (a ∷ [])) (cover s (b ∷ bs)).0 (plain_quoteless s (a ∷ []) h) (one s)
first_quoteless s a b bs (Some LineComment) h one two = both (spaces (length (a ∷ b ∷ bs))) [] (all_spaces (length (a ∷ b ∷ bs))) empty
first_quoteless s a b bs (Some Open) h one two = both (spaces 2) (cover (deeper s) bs).0 (all_spaces 2) (two tt (deeper s))
first_quoteless s a b bs (Some Close) h one two = both (spaces 2) (cover (shallower s) bs).0 (all_spaces 2) (two tt (shallower s))
first_quoteless s a b bs (Some DoubleQuote) h one two = both (a ∷ []) (cover (past_quote s) (b ∷ bs)).0 h (one (past_quote s))

-- an ASCII byte, and characters after it; the first of them, if it is one byte
low_quoteless : (s : CommentState) (a : ℕ) (cs ys : List ℕ) → Quoteless (a ∷ []) → encodes cs ≡ ys → ((t : CommentState) → Quoteless (cover t (encodes cs)).0) → ((d : ℕ) (ds : List ℕ) → cs ≡ d ∷ ds → (t : CommentState) → Quoteless (cover t (encodes ds)).0)
    → Quoteless (cover s (a ∷ ys)).0
unfolding cover
low_quoteless s a cs [] h e one two = last_quoteless s a h (mark_at s (a ∷ []))
low_quoteless s a [] (b ∷ bs) h e one two = cc
low_quoteless s a (d ∷ ds) (b ∷ bs) h e one two =
    first_quoteless s a b bs (mark_at s (a ∷ b ∷ bs)) h (λ t. subst (λ v. Quoteless (cover t v).0) e (one t))
    (λ wide t. subst (λ v. Quoteless (cover t v).0) (tail (wide_low s a b bs wide)) (two d ds refl t))
  where
    tail : b < 128 → encodes ds ≡ bs
    tail low =
        let same : d ≡ b = char_from_byte (b ∷ bs) (encodes ds) d (sym e) low (omega arith) in
        let both : b ∷ encodes ds ≡ b ∷ bs = ap (λ v. v ++ encodes ds) (sym (encode_ascii b low)) ∙ ap (λ v. encode v ++ encodes ds) (sym same) ∙ e in
        ap (drop 1) both

character_quoteless : (s : CommentState) (c : ℕ) (cs : List ℕ) → scalar c ≡ true → is_quote c ≡ false → ((t : CommentState) → Quoteless (cover t (encodes cs)).0)
    → ((d : ℕ) (ds : List ℕ) → cs ≡ d ∷ ds → (t : CommentState) → Quoteless (cover t (encodes ds)).0) → Quoteless (cover s (encode c ++ encodes cs)).0
character_quoteless s c cs sc n one two =
    ⊎_elim
    (λ low. subst (λ v. Quoteless (cover s (v ++ encodes cs)).0) (sym (encode_ascii c low))
    (low_quoteless s c cs (encodes cs) (subst Quoteless (encode_ascii c low) (one_character c sc n)) refl one two))
    (λ high. subst Quoteless (sym (cover_high s (encode c) (encodes cs) (high_bytes c high))) (both (plain s (encode c)) (cover s (encodes cs)).0 (plain_quoteless s (encode c) (one_character c sc n)) (one s)))
    (cases_lt c 128)

cover_quoteless : (cs : List ℕ) (s : CommentState) → scalars cs ≡ true → NonePass is_quote cs → Quoteless (cover s (encodes cs)).0
unfolding cover
cover_quoteless [] s sc f = empty
cover_quoteless (c ∷ []) s sc f =
    let each = and_parts (scalar c) true sc in
    character_quoteless s c [] each.0 f.0 (λ t. empty) (λ d ds e t. cc)
cover_quoteless (c ∷ d ∷ ds) s sc f =
    let each = and_parts (scalar c) (scalars (d ∷ ds)) sc in
    let more = and_parts (scalar d) (scalars ds) each.1 in
    character_quoteless s c (d ∷ ds) each.0 f.0 (λ t. cover_quoteless (d ∷ ds) t each.1 f.1)
    (λ x xs e t. subst (λ v. Quoteless (cover t (encodes v)).0) (ap (drop 1) e) (cover_quoteless ds t more.1 f.1.1))

abbrev pub IsQuotelessLine : Line → Type 0
IsQuotelessLine l = Quoteless l.covered

placed_quoteless : (s : CommentState) (at : ℕ) (texts : List (List ℕ)) → All Quoteless texts → All IsQuotelessLine (placed at texts (covered_lines s texts))
placed_quoteless s at [] h = All-nil IsQuotelessLine
placed_quoteless s at (x ∷ texts) h =
    let q = All-head Quoteless x texts h in
    All-cons IsQuotelessLine _ _ (subst (λ t. Quoteless (cover s t).0) q.1.1.0 (cover_quoteless q.0 s q.1.0 q.1.1.1)) (placed_quoteless (cover s x).1 (next_place at x) texts (All-tail Quoteless x texts h))

-- the covered lines of a text without `"` have none
pub source_quoteless : (text : List ℕ) → IsUtf8 text → NoCharPasses (λ c. eqb c 34) text → All IsQuotelessLine (source_lines text)
source_quoteless text u none =
    let spelled : none.0 ≡ u.0 = encodes_same none.0 u.0 (none.1 ∙ sym u.1.1) in
    placed_quoteless Code 0 (lines text) (lines_quoteless text (u.0, (u.1.0, (u.1.1, subst (NonePass is_quote) spelled none.2))))
