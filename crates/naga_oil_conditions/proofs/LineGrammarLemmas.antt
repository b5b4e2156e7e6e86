-- The readers of the kinds of lines read exactly what the grammar says.
use Rattle.std.proofs.Common.{◌≡◌, ◌≢◌, ◌⊎◌, inl, inr, is_some, cond, ℕ, ◌||◌, Bool, true, false, Option, Some, None, List, [], ◌∷◌, ◌++◌, ◌+◌, ◌-◌, ◌<◌, length, take, drop, codes, refl, sym, ap, ◌∙◌, subst, arith, length-append, length-take, length-drop}
use Rattle.std.specs.Option.{option_map}
use Rattle.std.proofs.lemmas.List.{take-append-drop}
use Rattle.std.specs.Prelude.{nat_lt}
use Rattle.std.proofs.lemmas.Bool.Decides.{nat_tests}
use Rattle.std.proofs.Math.Seq.{take-append_seam, drop-append_seam}
use Rattle.std.specs.Str.{encode_utf8_all}
use Rattle.std.specs.Prelude.{bytes_eq}
use Rattle.std.specs.Char.{is_not_whitespace, is_ascii_digit}
use Rattle.naga_oil_words.specs.OptionSteps.{◌>>=◌}
use Rattle.naga_oil_lines.specs.Text.{past_word}
use Rattle.naga_oil_lines.proofs.TextLemmas.{past_word-append, past_word-some}
use Rattle.naga_oil_conditions.specs.LineKinds.{run, past_run, is_operator_char, operation_at, cut, comparison_at, if_condition, has_import, import_path, define, after_white, past_white, past_hash, past_else, past_directive, has_keyword, text_at, name_text, is_name_char, is_value_char, version, arm, named_arm, ifdef, ifndef}
use Rattle.naga_oil_conditions.specs.LineGrammar.{IsRun, IsWord, IsAfterWhite, IsAfterGap, IsAfterHash, IsAfterKeyword, IsAfterDirective, IsAfterElse, IsAfterArm, IsNamedArm, IsVersion, IsIfdef, IsIfndef, IsOperation, IsCompared, IsCut, IsIf, IsImport, IsImportPath, IsDefineValue, IsDefine}
use Rattle.naga_oil_conditions.proofs.RunLemmas.{some_is, bind_some, word-reads, word-is, white-only, white-is, gap-reads, gap-is, run-only, run-is, wordless-reads, wordless-is}

-- ---- the `#`
pub hash-reads : (line rest : List ℕ) → IsAfterHash line rest → past_hash line ≡ Some rest
unfolding past_hash
hash-reads line rest h = rw (sym (white-only line (codes "#" ++ rest) h)) (past_word-append (codes "#") rest)

pub hash-is : (line rest : List ℕ) → past_hash line ≡ Some rest → IsAfterHash line rest
unfolding past_hash
hash-is line rest e = subst (IsAfterWhite line) (past_word-some (codes "#") (after_white line) rest e) (white-is line)

-- ---- a word after white space
pub keyword-reads : (word cs rest : List ℕ) → IsAfterKeyword word cs rest → past_word word (after_white cs) ≡ Some rest
keyword-reads word cs rest h = ap (past_word word) (sym (white-only cs (word ++ rest) h)) ∙ past_word-append word rest

pub keyword-is : (word cs rest : List ℕ) → past_word word (after_white cs) ≡ Some rest → IsAfterKeyword word cs rest
keyword-is word cs rest e = subst (IsAfterWhite cs) (past_word-some word (after_white cs) rest e) (white-is cs)

pub directive-reads : (word cs rest : List ℕ) → IsAfterDirective word cs rest → past_directive word cs ≡ Some rest
unfolding past_directive
directive-reads word cs rest h = rw (keyword-reads word cs h.0 h.1) (gap-reads h.0 rest h.2)

pub directive-is : (word cs rest : List ℕ) → past_directive word cs ≡ Some rest → IsAfterDirective word cs rest
unfolding past_directive
directive-is word cs rest e =
    let b = bind_some (past_word word (after_white cs)) past_white rest e in
    (b.0, keyword-is word cs b.0 b.1, gap-is b.0 rest b.2)

-- ---- arms
else_found : (cs following rest : List ℕ) → past_word (codes "else") cs ≡ Some following → past_white following ≡ Some rest → past_else cs ≡ (true, rest)
unfolding past_else past_word
else_found cs following rest e f = rw (e, f) refl

else-is : (cs : List ℕ) → IsAfterElse (past_else cs).0 cs (past_else cs).1
unfolding past_else
else-is cs =
    elim (past_word (codes "else") cs >>= past_white) as (λ o. (past_word (codes "else") cs >>= past_white) ≡ o → (let r : Bool × List ℕ = elim o [ Some rest ↦ (true, rest) | None ↦ (false, cs) ] in IsAfterElse r.0 cs r.1)) [
      | Some rest ↦ λ w. let b = bind_some (past_word (codes "else") cs) past_white rest w in (b.0, past_word-some (codes "else") cs b.0 b.1, gap-is b.0 rest b.2)
      | None ↦ λ w. refl
    ] refl

-- a word that does not begin with `else`
abbrev pub IsNoElse : List ℕ → Type 0
IsNoElse word = (following : List ℕ) → past_else (word ++ following) ≡ (false, word ++ following)

else-reads : (word : List ℕ) (e : Bool) (cs following : List ℕ) → IsNoElse word → IsAfterElse e cs (word ++ following) → past_else cs ≡ (e, word ++ following)
else-reads word true cs following plain h = else_found cs h.0 (word ++ following) (ap (past_word (codes "else")) h.1 ∙ past_word-append (codes "else") h.0) (gap-reads h.0 (word ++ following) h.2)
else-reads word false cs following plain h = ap past_else h ∙ plain following

arm_by : (word cs : List ℕ) (e : Bool) (start following rest : List ℕ) → past_else (after_white cs) ≡ (e, start) → past_word word start ≡ Some following → past_white following ≡ Some rest → arm word cs ≡ Some (e, rest)
unfolding arm
arm_by word cs e start following rest p q r = rw (p, q, r) refl

pub arm-reads : (word : List ℕ) (e : Bool) (cs rest : List ℕ) → IsNoElse word → IsAfterArm word e cs rest → arm word cs ≡ Some (e, rest)
arm-reads word e cs rest plain h =
    let at : past_else (after_white cs) ≡ (e, word ++ h.following) = ap past_else (sym (white-only cs h.start h.front)) ∙ else-reads word e h.start h.following plain h.perhaps in
    arm_by word cs e (word ++ h.following) h.following rest at (past_word-append word h.following) (gap-reads h.following rest h.gap)

pub arm-is : (word : List ℕ) (e : Bool) (cs rest : List ℕ) → arm word cs ≡ Some (e, rest) → IsAfterArm word e cs rest
unfolding arm
arm-is word e cs rest h =
    let start = past_else (after_white cs) in
    let b = bind_some (past_word word start.1) (λ following. past_white following >>= (λ r. let x : Option (Bool × List ℕ) = Some (start.0, r) in x)) (e, rest) h in
    let d = bind_some (past_white b.0) (λ r. let x : Option (Bool × List ℕ) = Some (start.0, r) in x) (e, rest) b.2 in
    let both : (let x : Bool × List ℕ = (start.0, d.0) in x ≡ (e, rest)) = some_is _ _ d.2 in
    let word_at = past_word-some word start.1 b.0 b.1 in
    record {
      start = after_white cs;
      following = b.0;
      front = white-is cs;
      perhaps = subst (λ x. IsAfterElse x (after_white cs) (word ++ b.0)) (ap (λ x. x.0) both) (subst (IsAfterElse start.0 (after_white cs)) word_at (else-is (after_white cs)));
      gap = subst (IsAfterGap b.0) (ap (λ x. x.1) both) (gap-is b.0 d.0 d.1);
    }

named_by : (word cs : List ℕ) (e : Bool) (rest name : List ℕ) → arm word cs ≡ Some (e, rest) → name_text rest ≡ Some name → named_arm word cs ≡ Some (e, name)
unfolding named_arm
named_by word cs e rest name p q = rw (p, q) refl

named-reads : (word : List ℕ) (e : Bool) (name cs : List ℕ) → IsNoElse word → IsNamedArm word e name cs → named_arm word cs ≡ Some (e, name)
named-reads word e name cs plain h = named_by word cs e h.rest name (arm-reads word e cs h.rest plain h.arm) (word-reads is_name_char h.rest name h.more h.spelling).0

named-is : (word : List ℕ) (e : Bool) (name cs : List ℕ) → named_arm word cs ≡ Some (e, name) → IsNamedArm word e name cs
unfolding named_arm
named-is word e name cs h =
    let b = bind_some (arm word cs) (λ found. name_text found.1 >>= (λ n. let x : Option (Bool × List ℕ) = Some (found.0, n) in x)) (e, name) h in
    let d = bind_some (name_text b.0.1) (λ n. let x : Option (Bool × List ℕ) = Some (b.0.0, n) in x) (e, name) b.2 in
    let both : (let x : Bool × List ℕ = (b.0.0, d.0) in x ≡ (e, name)) = some_is _ _ d.2 in
    record {
      rest = b.0.1;
      more = past_run is_name_char b.0.1;
      arm = subst (λ x. IsAfterArm word x cs b.0.1) (ap (λ x. x.0) both) (arm-is word b.0.0 cs b.0.1 b.1);
      spelling = subst (λ x. IsWord is_name_char b.0.1 x (past_run is_name_char b.0.1)) (ap (λ x. x.1) both) (word-is is_name_char b.0.1 d.0 d.1);
    }

ifdef_no_else : IsNoElse (codes "ifdef")
unfolding past_else past_word
ifdef_no_else following = refl

ifndef_no_else : IsNoElse (codes "ifndef")
unfolding past_else past_word
ifndef_no_else following = refl

pub if_no_else : IsNoElse (codes "if")
unfolding past_else past_word
if_no_else following = refl

pub ifdef-reads : (e : Bool) (name cs : List ℕ) → IsIfdef e name cs → ifdef cs ≡ Some (e, name)
ifdef-reads e name cs h = named-reads (codes "ifdef") e name cs ifdef_no_else h

pub ifdef-is : (e : Bool) (name cs : List ℕ) → ifdef cs ≡ Some (e, name) → IsIfdef e name cs
ifdef-is e name cs h = named-is (codes "ifdef") e name cs h

pub ifndef-reads : (e : Bool) (name cs : List ℕ) → IsIfndef e name cs → ifndef cs ≡ Some (e, name)
ifndef-reads e name cs h = named-reads (codes "ifndef") e name cs ifndef_no_else h

pub ifndef-is : (e : Bool) (name cs : List ℕ) → ifndef cs ≡ Some (e, name) → IsIfndef e name cs
ifndef-is e name cs h = named-is (codes "ifndef") e name cs h

-- ---- versions
version_by : (cs following rest number : List ℕ) → past_word (codes "version") cs ≡ Some following → past_white following ≡ Some rest → text_at is_ascii_digit rest ≡ Some number
    → version cs ≡ Some (bytes_eq number (codes "440") || bytes_eq number (codes "450"))
unfolding version past_word
version_by cs following rest number p q r = rw (p, q, r) refl

pub version-reads : (known : Bool) (cs : List ℕ) → IsVersion known cs → version cs ≡ Some known
version-reads known cs h =
    version_by cs h.following h.rest h.number (ap (past_word (codes "version")) h.word ∙ past_word-append (codes "version") h.following) (gap-reads h.following h.rest h.gap) (word-reads is_ascii_digit h.rest h.number h.more h.digits).0
    ∙ ap Some (sym h.knows)

pub version-is : (known : Bool) (cs : List ℕ) → version cs ≡ Some known → IsVersion known cs
unfolding version
version-is known cs h =
    let last = λ (n : List ℕ). (let x : Option Bool = Some (bytes_eq n (codes "440") || bytes_eq n (codes "450")) in x) in
    let b = bind_some (past_word (codes "version") cs) (λ following. past_white following >>= (λ rest. text_at is_ascii_digit rest >>= last)) known h in
    let d = bind_some (past_white b.0) (λ rest. text_at is_ascii_digit rest >>= last) known b.2 in
    let n = bind_some (text_at is_ascii_digit d.0) last known d.2 in
    record {
      following = b.0;
      rest = d.0;
      number = n.0;
      more = past_run is_ascii_digit d.0;
      word = past_word-some (codes "version") cs b.0 b.1;
      gap = gap-is b.0 d.0 d.1;
      digits = word-is is_ascii_digit d.0 n.0 n.1;
      knows = sym (some_is _ _ n.2);
    }

-- ---- comparisons
operation_by : (cs start following rest sign operator value : List ℕ) → start ≡ after_white cs → sign ≡ run is_operator_char start → following ≡ past_run is_operator_char start → rest ≡ after_white following
    → operator ≡ encode_utf8_all sign → text_at is_value_char rest ≡ Some value → operation_at cs ≡ Some (operator, value)
unfolding operation_at
operation_by cs start following rest sign operator value p q r s t u =
    let same : after_white (past_run is_operator_char (after_white cs)) ≡ rest = sym (s ∙ ap after_white (r ∙ ap (past_run is_operator_char) p)) in
    let sign_is : encode_utf8_all (run is_operator_char (after_white cs)) ≡ operator = sym (t ∙ ap encode_utf8_all (q ∙ ap (run is_operator_char) p)) in
    rw (same, u, sign_is) refl

pub operation-reads : (operator value cs : List ℕ) → IsOperation operator value cs → operation_at cs ≡ Some (operator, value)
operation-reads operator value cs h =
    let u = run-only is_operator_char h.start h.sign h.following h.run in
    operation_by cs h.start h.following h.rest h.sign operator value (white-only cs h.start h.front) u.0 u.1 (white-only h.following h.rest h.white) h.spelled (word-reads is_value_char h.rest value h.more h.operand).0

pub operation-is : (operator value cs : List ℕ) → operation_at cs ≡ Some (operator, value) → IsOperation operator value cs
unfolding operation_at
operation-is operator value cs h =
    let start = after_white cs in
    let following = past_run is_operator_char start in
    let sign = run is_operator_char start in
    let b = bind_some (text_at is_value_char (after_white following)) (λ v. let x : Option (List ℕ × List ℕ) = Some (encode_utf8_all sign, v) in x) (operator, value) h in
    let both : (let x : List ℕ × List ℕ = (encode_utf8_all sign, b.0) in x ≡ (operator, value)) = some_is _ _ b.2 in
    record {
      start = start;
      sign = sign;
      following = following;
      rest = after_white following;
      more = past_run is_value_char (after_white following);
      front = white-is cs;
      run = run-is is_operator_char start;
      spelled = sym (ap (λ x. x.0) both);
      white = white-is following;
      operand = subst (λ x. IsWord is_value_char (after_white following) x (past_run is_value_char (after_white following))) (ap (λ x. x.1) both) (word-is is_value_char (after_white following) b.0 b.1);
    }

cut_by : (name front end : List ℕ) → name ≡ front ++ end → length front ≢ 0 → length end ≡ 1 → cut name ≡ Some (encode_utf8_all front, encode_utf8_all end)
unfolding cut
cut_by name front end e some one =
    let size : length name ≡ length front + 1 = ap length e ∙ length-append front end ∙ ap (λ k. length front + k) one in
    let count : length name - 1 ≡ length front = omega arith in
    let more : nat_lt 1 (length name) ≡ true = grind (arith, nat_tests, some, size) in
    let front_is : take (length name - 1) name ≡ front = ap (λ k. take k name) count ∙ ap (take (length front)) e ∙ take-append_seam front end in
    let end_is : drop (length name - 1) name ≡ end = ap (λ k. drop k name) count ∙ ap (drop (length front)) e ∙ drop-append_seam front end in
    rw (more, front_is, end_is) refl

-- a name's last character after one or more
record CutAt (name front end : List ℕ) : Type 0 where
  first : ℕ
  more : List ℕ
  last : ℕ
  whole : name ≡ first ∷ (more ++ (last ∷ []))
  front_is : front ≡ encode_utf8_all (first ∷ more)
  end_is : end ≡ encode_utf8_all (last ∷ [])

cut_shape : (name front end a b : List ℕ) → name ≡ front ++ end → length front ≢ 0 → length end ≡ 1 → a ≡ encode_utf8_all front → b ≡ encode_utf8_all end → CutAt name a b
cut_shape name [] end a b e some one p q = absurd (some refl)
cut_shape name (c ∷ front) [] a b e some one p q = absurd (omega (arith, one))
cut_shape name (c ∷ front) (d ∷ []) a b e some one p q = record { first = c; more = front; last = d; whole = e; front_is = p; end_is = q }
cut_shape name (c ∷ front) (d ∷ x ∷ end) a b e some one p q = absurd (omega (arith, one))

cut-is : (name a b : List ℕ) → cut name ≡ Some (a, b) → CutAt name a b
unfolding cut
cut-is name a b h =
    let front = take (length name - 1) name in
    let end = drop (length name - 1) name in
    let found : Option (List ℕ × List ℕ) = Some (encode_utf8_all front, encode_utf8_all end) in
    elim (nat_lt 1 (length name)) as (λ t. nat_lt 1 (length name) ≡ t → cond t found None ≡ Some (a, b) → CutAt name a b) [
      | true ↦ λ t q.
          let more : 1 < length name = grind (arith, nat_tests, t) in
          let some : length front ≢ 0 = λ z. omega (arith, z, length-take (length name - 1) name, more) in
          let one : length end ≡ 1 = omega (arith, length-drop (length name - 1) name, more) in
          let both : (let x : List ℕ × List ℕ = (encode_utf8_all front, encode_utf8_all end) in x ≡ (a, b)) = some_is _ _ q in
          cut_shape name front end a b (sym (take-append-drop (length name - 1) name)) some one (sym (ap (λ x. x.0) both)) (sym (ap (λ x. x.1) both))
      | false ↦ λ t q. cc
    ] refl h

compared_by : (cs name operator value : List ℕ) → name_text cs ≡ Some name → operation_at (past_run is_name_char cs) ≡ Some (operator, value) → comparison_at cs ≡ Some (name, operator, value)
unfolding comparison_at
compared_by cs name operator value p q = rw (p, q) refl

cut_comparison : (cs whole front end : List ℕ) → name_text cs ≡ Some whole → operation_at (past_run is_name_char cs) ≡ None → cut (run is_name_char cs) ≡ Some (front, end) → comparison_at cs ≡ Some (front, [], end)
unfolding comparison_at
cut_comparison cs whole front end p q r = rw (p, q, r) refl

none_without : {A : Type 0} (o : Option A) → ((x : A) → o ≡ Some x → ⊥) → o ≡ None
none_without None h = refl
none_without (Some x) h = absurd (h x refl)

comparison-reads : (name operator value cs : List ℕ) → IsCompared name operator value cs ⊎ IsCut name operator value cs → comparison_at cs ≡ Some (name, operator, value)
comparison-reads name operator value cs (inl h) =
    let w = word-reads is_name_char cs name h.rest h.spelling in
    compared_by cs name operator value w.0 (ap operation_at (sym w.1) ∙ operation-reads operator value h.rest h.operation)
comparison-reads name operator value cs (inr h) =
    let whole = h.first ∷ (h.more ++ (h.last ∷ [])) in
    let w = word-reads is_name_char cs (encode_utf8_all whole) h.rest (record { first = h.first; more = h.more ++ (h.last ∷ []); run = h.run; spelled = refl }) in
    let u = run-only is_name_char cs whole h.rest h.run in
    let none : operation_at (past_run is_name_char cs) ≡ None = none_without _ (λ x e. h.alone x.0 x.1 (operation-is x.0 x.1 h.rest (ap operation_at w.1 ∙ e))) in
    let parts : cut (run is_name_char cs) ≡ Some (encode_utf8_all (h.first ∷ h.more), encode_utf8_all (h.last ∷ [])) =
    ap cut (sym u.0) ∙ cut_by whole (h.first ∷ h.more) (h.last ∷ []) refl (λ z. omega (arith, z)) refl in
    cut_comparison cs (encode_utf8_all whole) _ _ w.0 none parts ∙ (λ i. Some (sym h.front i, sym h.empty i, sym h.end i))

comparison-is : (name operator value cs : List ℕ) → comparison_at cs ≡ Some (name, operator, value) → IsCompared name operator value cs ⊎ IsCut name operator value cs
unfolding comparison_at
comparison-is name operator value cs h =
    let following = past_run is_name_char cs in
    let go = λ (n : List ℕ) (o : Option (List ℕ × List ℕ)). (let x : Option (List ℕ × List ℕ × List ℕ) = elim o [
      | Some found ↦ Some (n, found.0, found.1)
      | None ↦ option_map (λ parts. (parts.0, [], parts.1)) (cut (run is_name_char cs))
    ] in x) in
    let b = bind_some (name_text cs) (λ n. go n (operation_at following)) (name, operator, value) h in
    elim (operation_at following) as (λ o. operation_at following ≡ o → go b.0 o ≡ Some (name, operator, value) → IsCompared name operator value cs ⊎ IsCut name operator value cs) [
      | Some found ↦ λ e q. compared_case b.0 found.0 found.1 b.1 e (some_is _ _ q)
      | None ↦ λ e q. cut_case (cut (run is_name_char cs)) refl e q
    ] refl b.2
  where
    compared_case : (n o v : List ℕ) → name_text cs ≡ Some n → operation_at (past_run is_name_char cs) ≡ Some (o, v) → (let x : List ℕ × List ℕ × List ℕ = (n, o, v) in x ≡ (name, operator, value)) → IsCompared name operator value cs ⊎ IsCut name operator value cs
    compared_case n o v p q e =
        let name_is : IsWord is_name_char cs name (past_run is_name_char cs) = subst (λ x. IsWord is_name_char cs x (past_run is_name_char cs)) (ap (λ x. x.0) e) (word-is is_name_char cs n p) in
        let found : operation_at (past_run is_name_char cs) ≡ Some (operator, value) = q ∙ (λ i. Some ((e i).1, (e i).2)) in
        inl (record { rest = past_run is_name_char cs; spelling = name_is; operation = operation-is operator value (past_run is_name_char cs) found })

    cut_case : (o : Option (List ℕ × List ℕ)) → cut (run is_name_char cs) ≡ o → operation_at (past_run is_name_char cs) ≡ None → (let x : Option (List ℕ × List ℕ × List ℕ) = option_map (λ parts. (parts.0, [], parts.1)) o in x ≡ Some (name, operator, value)) → IsCompared name operator value cs ⊎ IsCut name operator value cs
    cut_case None p none q = cc
    cut_case (Some parts) p none q =
        let e : (let x : List ℕ × List ℕ × List ℕ = (parts.0, [], parts.1) in x ≡ (name, operator, value)) = some_is _ _ q in
        let s = cut-is (run is_name_char cs) parts.0 parts.1 p in
        inr (record {
          first = s.first;
          more = s.more;
          last = s.last;
          rest = past_run is_name_char cs;
          run = subst (λ x. IsRun is_name_char cs x (past_run is_name_char cs)) s.whole (run-is is_name_char cs);
          alone = λ x v found. let both = operation-reads x v (past_run is_name_char cs) found in cc;
          front = sym (ap (λ x. x.0) e) ∙ s.front_is;
          empty = sym (ap (λ x. x.1) e);
          end = sym (ap (λ x. x.2) e) ∙ s.end_is;
        })

if_by : (cs : List ℕ) (e : Bool) (rest name operator value : List ℕ) → arm (codes "if") cs ≡ Some (e, rest) → comparison_at rest ≡ Some (name, operator, value) → if_condition cs ≡ Some (e, name, operator, value)
unfolding if_condition
if_by cs e rest name operator value p q = rw (p, q) refl

pub if-reads : (e : Bool) (name operator value cs : List ℕ) → IsIf e name operator value cs → if_condition cs ≡ Some (e, name, operator, value)
if-reads e name operator value cs h = if_by cs e h.rest name operator value (arm-reads (codes "if") e cs h.rest if_no_else h.arm) (comparison-reads name operator value h.rest h.parts)

pub if-is : (e : Bool) (name operator value cs : List ℕ) → if_condition cs ≡ Some (e, name, operator, value) → IsIf e name operator value cs
unfolding if_condition
if-is e name operator value cs h =
    let last = λ (e : Bool) (x : List ℕ × List ℕ × List ℕ). (let r : Option (Bool × List ℕ × List ℕ × List ℕ) = Some (e, x.0, x.1, x.2) in r) in
    let b = bind_some (arm (codes "if") cs) (λ found. comparison_at found.1 >>= last found.0) (e, name, operator, value) h in
    let d = bind_some (comparison_at b.0.1) (last b.0.0) (e, name, operator, value) b.2 in
    let both : (let x : Bool × List ℕ × List ℕ × List ℕ = (b.0.0, d.0.0, d.0.1, d.0.2) in x ≡ (e, name, operator, value)) = some_is _ _ d.2 in
    record {
      rest = b.0.1;
      arm = subst (λ x. IsAfterArm (codes "if") x cs b.0.1) (ap (λ x. x.0) both) (arm-is (codes "if") b.0.0 cs b.0.1 b.1);
      parts = comparison-is name operator value b.0.1 (d.1 ∙ (λ i. Some ((both i).1, (both i).2, (both i).3)));
    }

-- ---- words and the text after them
some_there : {A : Type 0} (o : Option A) (x : A) → o ≡ Some x → is_some o ≡ true
some_there o x e = ap is_some e

there_some : {A : Type 0} (o : Option A) → is_some o ≡ true → (x : A) × (o ≡ Some x)
there_some None e = cc
there_some (Some x) e = (x, refl)

pub begins-reads : (word cs rest : List ℕ) → IsAfterKeyword word cs rest → has_keyword word cs ≡ true
unfolding has_keyword
begins-reads word cs rest h = some_there (past_word word (after_white cs)) rest (keyword-reads word cs rest h)

pub begins-is : (word cs : List ℕ) → has_keyword word cs ≡ true → (rest : List ℕ) × IsAfterKeyword word cs rest
unfolding has_keyword
begins-is word cs e = let b = there_some (past_word word (after_white cs)) e in (b.0, keyword-is word cs b.0 b.1)

pub import-reads : (cs : List ℕ) → IsImport cs → has_import cs ≡ true
import-reads cs h = some_there (past_directive (codes "import") cs) h.0 (directive-reads (codes "import") cs h.0 h.1)

pub import-is : (cs : List ℕ) → has_import cs ≡ true → IsImport cs
import-is cs e = let b = there_some (past_directive (codes "import") cs) e in (b.0, directive-is (codes "import") cs b.0 b.1)

path_by : (cs rest path : List ℕ) → past_directive (codes "define_import_path") cs ≡ Some rest → text_at is_not_whitespace rest ≡ Some path → import_path cs ≡ Some path
unfolding import_path
path_by cs rest path p q = rw (p, q) refl

pub import_path-reads : (path cs : List ℕ) → IsImportPath path cs → import_path cs ≡ Some path
import_path-reads path cs h = path_by cs h.rest path (directive-reads (codes "define_import_path") cs h.rest h.word) (word-reads is_not_whitespace h.rest path h.more h.spelling).0

pub import_path-is : (path cs : List ℕ) → import_path cs ≡ Some path → IsImportPath path cs
unfolding import_path
import_path-is path cs h =
    let b = bind_some (past_directive (codes "define_import_path") cs) (λ rest. text_at is_not_whitespace rest) path h in
    record { rest = b.0; more = past_run is_not_whitespace b.0; word = directive-is (codes "define_import_path") cs b.0 b.1; spelling = word-is is_not_whitespace b.0 path b.2 }

-- ---- defines
value-reads : (value : Option (List ℕ)) (cs : List ℕ) → IsDefineValue value cs → text_at is_value_char cs ≡ value
value-reads None cs h = wordless-reads is_value_char cs h
value-reads (Some value) cs h = (word-reads is_value_char cs value h.0 h.1).0

value-is : (value : Option (List ℕ)) (cs : List ℕ) → text_at is_value_char cs ≡ value → IsDefineValue value cs
value-is None cs e = wordless-is is_value_char cs e
value-is (Some value) cs e = (past_run is_value_char cs, word-is is_value_char cs value e)

define_by : (cs rest name : List ℕ) → past_directive (codes "define") cs ≡ Some rest → name_text rest ≡ Some name → define cs ≡ Some (name, text_at is_value_char (after_white (past_run is_name_char rest)))
unfolding define
define_by cs rest name p q = rw (p, q) refl

pub define-reads : (name : List ℕ) (value : Option (List ℕ)) (cs : List ℕ) → IsDefine name value cs → define cs ≡ Some (name, value)
define-reads name value cs h =
    let w = word-reads is_name_char h.rest name h.following h.spelling in
    let start : h.start ≡ after_white (past_run is_name_char h.rest) = white-only h.following h.start h.white ∙ ap after_white w.1 in
    let value_is : text_at is_value_char (after_white (past_run is_name_char h.rest)) ≡ value = ap (text_at is_value_char) (sym start) ∙ value-reads value h.start h.definition in
    define_by cs h.rest name (directive-reads (codes "define") cs h.rest h.word) w.0 ∙ (λ i. Some (name, value_is i))

pub define-is : (name : List ℕ) (value : Option (List ℕ)) (cs : List ℕ) → define cs ≡ Some (name, value) → IsDefine name value cs
unfolding define
define-is name value cs h =
    let last = λ (rest n : List ℕ). (let x : Option (List ℕ × Option (List ℕ)) = Some (n, text_at is_value_char (after_white (past_run is_name_char rest))) in x) in
    let b = bind_some (past_directive (codes "define") cs) (λ rest. name_text rest >>= last rest) (name, value) h in
    let d = bind_some (name_text b.0) (last b.0) (name, value) b.2 in
    let both : (let x : List ℕ × Option (List ℕ) = (d.0, text_at is_value_char (after_white (past_run is_name_char b.0))) in x ≡ (name, value)) = some_is _ _ d.2 in
    record {
      rest = b.0;
      following = past_run is_name_char b.0;
      start = after_white (past_run is_name_char b.0);
      word = directive-is (codes "define") cs b.0 b.1;
      spelling = subst (λ x. IsWord is_name_char b.0 x (past_run is_name_char b.0)) (ap (λ x. x.0) both) (word-is is_name_char b.0 d.0 d.1);
      white = white-is (past_run is_name_char b.0);
      definition = value-is value (after_white (past_run is_name_char b.0)) (ap (λ x. x.1) both);
    }
