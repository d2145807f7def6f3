-- A script that is read is printed so, and one that is printed is read again. Assumes nothing.
use Rattle.std.proofs.Common.{◌≡◌, ℕ, ◌^◌, ◌≤◌, Bool, true, false, ◌||◌, cond, eqb, ltb, List, [], ◌∷◌, ◌++◌, length, map, take, drop, Option, Some, None, refl, sym, ap, subst, ◌∙◌, append_assoc, arith, inl, inr}
use Rattle.std.specs.Fmt.{decimal}
use Rattle.std.specs.List.{flat_map}
use Rattle.std.proofs.lemmas.Bool.{eqb-true, ltb-false, le-ltb, or_parts, or_from}
use Rattle.std.proofs.lemmas.List.{append-nil, length-append, length-map, length-take-le, nil_from_length, take-append-drop, take_at, drop_at}
use Rattle.std.proofs.lemmas.Option.{cond_some, same_Some}
use Rattle.script.specs.declared.commands.FieldName.{FieldName}
use Rattle.script.specs.declared.commands.FieldName.TheVariants.{Five, Four, Bytes, Words}
use Rattle.script.specs.Reading.{first_byte, after_byte, number_then, field_of, first_line_at, second_line_at, commands_at, script_at}
use Rattle.script.specs.Scripts.{CommandValue, ScriptValue, IsScript, Prints, field_letter, size, letter, number_line, line, printed}
use Rattle.script.proofs.LineLaws.{bind_some, chosen, after_takes, after_again, first_takes, number_then_takes, number_then_again}
use Rattle.script.proofs.CommandLaws.{CommandsTaken, commands_take, commands_again}

-- a test that did not fail
guard_some : {A : Type 0} (b : Bool) (x y : A) → cond b None (Some x) ≡ Some y → (b ≡ false) × (x ≡ y)
guard_some true x y e = absurd cc
guard_some false x y e = (refl, cc)

guard_next : {A : Type 0} (b : Bool) (o : Option A) (y : A) → cond b None o ≡ Some y → (b ≡ false) × (o ≡ Some y)
guard_next true o y e = absurd cc
guard_next false o y e = (refl, e)

field_case : (l at : ℕ) (f g : FieldName) (other : Option FieldName) → field_letter f ≡ at → (other ≡ Some g → field_letter g ≡ l) → cond (eqb l at) (Some f) other ≡ Some g → field_letter g ≡ l
field_case l at f g other here there e =
    elim (chosen (eqb l at) (Some f) other (Some g) e) [
      | inl h ↦ ap field_letter (sym (same_Some f g h.1)) ∙ here ∙ sym (eqb-true l at h.0)
      | inr h ↦ there h.1
    ]

field_takes : (l : ℕ) (f : FieldName) → field_of l ≡ Some f → field_letter f ≡ l
field_takes l f e =
    field_case l 102 Five f _ refl (field_case l 113 Four f _ refl (field_case l 98 Bytes f _ refl (field_case l 119 Words f _ refl (λ none. absurd (by none))))) e
  where
    by : None ≡ Some f → ⊥
    by none = cc

field_again : (f : FieldName) → field_of (field_letter f) ≡ Some f
field_again Five = refl
field_again Four = refl
field_again Bytes = refl
field_again Words = refl

size_small : (f : FieldName) → size f ≤ 10 ^ 9
size_small Five = omega arith
size_small Four = omega arith
size_small Bytes = omega arith
size_small Words = omega arith

-- the first line of a field, a size and a count
abbrev first_line : FieldName → ℕ → ℕ → List ℕ
first_line f m count = line ((field_letter f ∷ []) ∷ decimal m ∷ decimal count ∷ [])

first_line_is : (f : FieldName) (m count : ℕ) (rest : List ℕ) → first_line f m count ++ rest ≡ field_letter f ∷ 32 ∷ (decimal m ++ 32 ∷ (decimal count ++ 10 ∷ rest))
first_line_is f m count rest =
    ap (λ t. field_letter f ∷ 32 ∷ t)
    (ap (λ t. t ++ rest) (append_assoc (decimal m) (32 ∷ decimal count) (10 ∷ []))
    ∙ append_assoc (decimal m) (32 ∷ decimal count ++ 10 ∷ []) rest
    ∙ ap (λ t. decimal m ++ 32 ∷ t) (append_assoc (decimal count) (10 ∷ []) rest))

record FirstTaken (bytes : List ℕ) (f : FieldName) (m count : ℕ) (rest : List ℕ) : Type 0 where
  parts : bytes ≡ first_line f m count ++ rest
  m_most : m ≤ 9
  some : 1 ≤ count
  few : count ≤ 64

-- the pieces in a row
in_row : (f : FieldName) (l m count : ℕ) (bytes behind_field behind_space behind_m rest : List ℕ) → field_letter f ≡ l → bytes ≡ l ∷ behind_field → behind_field ≡ 32 ∷ behind_space
    → behind_space ≡ decimal m ++ 32 ∷ behind_m → behind_m ≡ decimal count ++ 10 ∷ rest → bytes ≡ first_line f m count ++ rest
in_row f l m count bytes behind_field behind_space behind_m rest letter_is p q r s =
    p ∙ ap (λ t. l ∷ t) (q ∙ ap (λ t. 32 ∷ t) (r ∙ ap (λ t. decimal m ++ 32 ∷ t) s))
    ∙ ap (λ d. d ∷ 32 ∷ (decimal m ++ 32 ∷ (decimal count ++ 10 ∷ rest))) (sym letter_is)
    ∙ sym (first_line_is f m count rest)

first_line_takes : (bytes : List ℕ) (x : (FieldName × ℕ × ℕ) × List ℕ) → first_line_at bytes ≡ Some x → FirstTaken bytes x.0.0 x.0.1 x.0.2 x.1
unfolding first_line_at
first_line_takes bytes x e =
    let a = bind_some (first_byte bytes) _ x e in
    let f = bind_some (field_of a.0.0) _ x a.2 in
    let r = bind_some (after_byte 32 a.0.1) _ x f.2 in
    let m = bind_some (number_then 32 r.0) _ x r.2 in
    let n = bind_some (number_then 10 m.0.1) _ x m.2 in
    let g = guard_some _ _ x n.2 in
    let tests = or_parts (ltb 9 m.0.0) (ltb n.0.0 1 || ltb 64 n.0.0) g.0 in
    let few = or_parts (ltb n.0.0 1) (ltb 64 n.0.0) tests.1 in
    subst (λ (y : (FieldName × ℕ × ℕ) × List ℕ). FirstTaken bytes y.0.0 y.0.1 y.0.2 y.1) g.1
    (record {
      parts = in_row f.0 a.0.0 m.0.0 n.0.0 bytes a.0.1 r.0 m.0.1 n.0.1 (field_takes a.0.0 f.0 f.1) (first_takes bytes a.0 a.1) (after_takes 32 a.0.1 r.0 r.1) (number_then_takes 32 r.0 m.0 m.1).0 (number_then_takes 10 m.0.1 n.0 n.1).0;
      m_most = ltb-false _ _ tests.0;
      some = ltb-false _ _ few.0;
      few = ltb-false _ _ few.1;
    })

first_line_again : (f : FieldName) (m count : ℕ) (rest : List ℕ) → m ≤ 9 → 1 ≤ count → count ≤ 64 → first_line_at (first_line f m count ++ rest) ≡ Some ((f, m, count), rest)
unfolding first_line_at
first_line_again f m count rest m_most some few =
    let tests : (ltb 9 m || (ltb count 1 || ltb 64 count)) ≡ false = or_from _ _ (le-ltb 9 m m_most) (or_from _ _ (le-ltb count 1 some) (le-ltb 64 count few)) in
    ap first_line_at (first_line_is f m count rest)
    ∙ rw (field_again f, after_again 32 (decimal m ++ 32 ∷ (decimal count ++ 10 ∷ rest)), number_then_again 32 m (decimal count ++ 10 ∷ rest) (omega arith) refl, number_then_again 10 count rest (omega arith) refl, tests) refl

second_line_takes : (count : ℕ) (bytes : List ℕ) (x : List ℕ × List ℕ) → second_line_at count bytes ≡ Some x → (bytes ≡ line (x.0 ∷ []) ++ x.1) × (length x.0 ≡ count)
unfolding second_line_at
second_line_takes count bytes x e =
    let g = guard_next (ltb (length bytes) count) _ x e in
    let r = bind_some (after_byte 10 (drop count bytes)) _ x g.1 in
    let long : count ≤ length bytes = ltb-false _ _ g.0 in
    let behind = after_takes 10 (drop count bytes) r.0 r.1 in
    subst (λ (y : List ℕ × List ℕ). (bytes ≡ line (y.0 ∷ []) ++ y.1) × (length y.0 ≡ count)) (same_Some _ _ r.2)
    (sym (take-append-drop count bytes) ∙ ap (λ t. take count bytes ++ t) behind ∙ sym (append_assoc (take count bytes) (10 ∷ []) r.0), length-take-le count bytes long)

second_line_again : (ls rest : List ℕ) → second_line_at (length ls) (line (ls ∷ []) ++ rest) ≡ Some (ls, rest)
unfolding second_line_at
second_line_again ls rest =
    let long : ltb (length (ls ++ 10 ∷ rest)) (length ls) ≡ false = le-ltb _ _ (omega (arith, length-append ls (10 ∷ rest))) in
    ap (second_line_at (length ls)) (append_assoc ls (10 ∷ []) rest)
    ∙ rw (long, take_at ls (10 ∷ rest) (length ls) refl, drop_at ls (10 ∷ rest) (length ls) refl, after_again 10 rest) refl

-- the lines in a row
lines_in_row : (s : ScriptValue) (bytes behind_first behind_second : List ℕ) → bytes ≡ first_line s.field s.m (length s.commands) ++ behind_first
    → behind_first ≡ line (map letter s.commands ∷ []) ++ behind_second → behind_second ≡ flat_map number_line s.commands → bytes ≡ printed s
unfolding printed
lines_in_row s bytes behind_first behind_second p q r =
    let first = first_line s.field s.m (length s.commands) in
    let second = line (map letter s.commands ∷ []) in
    p ∙ ap (λ t. first ++ t) (q ∙ ap (λ t. second ++ t) r) ∙ sym (append_assoc first second (flat_map number_line s.commands))

script_takes : (bytes : List ℕ) (s : ScriptValue) → script_at bytes ≡ Some s → IsScript s × (printed s ≡ bytes)
unfolding script_at
script_takes bytes s e =
    let g = guard_next (ltb 16384 (length bytes)) _ s e in
    let h = bind_some (first_line_at bytes) _ s g.1 in
    let l = bind_some (second_line_at h.0.0.2 h.0.1) _ s h.2 in
    let c = bind_some (commands_at (size h.0.0.0) l.0.0 l.0.1) _ s l.2 in
    let p = cond_some _ _ s c.2 in
    let first = first_line_takes bytes h.0 h.1 in
    let second = second_line_takes h.0.0.2 h.0.1 l.0 l.1 in
    let commands = commands_take (size h.0.0.0) l.0.0 l.0.1 c.0 c.1 in
    let nothing : c.0.1 ≡ [] = nil_from_length c.0.1 (eqb-true _ _ p.0) in
    by h.0.0.0 h.0.0.1 h.0.0.2 h.0.1 l.0.0 l.0.1 c.0.0 c.0.1 (ltb-false _ _ g.0) first second.0 second.1 commands nothing p.1
  where
    by : (f : FieldName) (m count : ℕ) (behind_first ls behind_second : List ℕ) (cs : List CommandValue) (rest : List ℕ) → length bytes ≤ 16384 → FirstTaken bytes f m count behind_first
        → behind_first ≡ line (ls ∷ []) ++ behind_second → length ls ≡ count → CommandsTaken (size f) ls behind_second cs rest → rest ≡ []
        → record { field = f; m = m; commands = cs } ≡ s → IsScript s × (printed s ≡ bytes)
    by f m count behind_first ls behind_second cs rest short first second counted commands nothing same =
        let made : ScriptValue = record { field = f; m = m; commands = cs } in
        let count-is : count ≡ length cs = sym counted ∙ ap length (sym commands.letters_are) ∙ length-map cs letter in
        let whole : bytes ≡ printed made =
        lines_in_row made bytes behind_first behind_second (first.parts ∙ ap (λ n. first_line f m n ++ behind_first) count-is)
        (second ∙ ap (λ ls. line (ls ∷ []) ++ behind_second) (sym commands.letters_are))
        (commands.parts ∙ ap (λ r. flat_map number_line cs ++ r) nothing ∙ append-nil (flat_map number_line cs)) in
        let is : IsScript made = record {
          m = first.m_most;
          some = omega (arith, first.some, count-is);
          few = omega (arith, first.few, count-is);
          each = commands.each;
          short = omega (arith, ap length whole);
        } in
        subst (λ (t : ScriptValue). IsScript t × (printed t ≡ bytes)) same (is, sym whole)

script_again : (s : ScriptValue) → IsScript s → script_at (printed s) ≡ Some s
unfolding script_at printed
script_again s is =
    let first = first_line s.field s.m (length s.commands) in
    let second = line (map letter s.commands ∷ []) in
    let third = flat_map number_line s.commands in
    let short : ltb 16384 (length (printed s)) ≡ false = le-ltb _ _ is.short in
    let h : first_line_at (printed s) ≡ Some ((s.field, s.m, length s.commands), second ++ third) =
    ap first_line_at (append_assoc first second third) ∙ first_line_again s.field s.m (length s.commands) (second ++ third) is.m is.some is.few in
    let l : second_line_at (length s.commands) (second ++ third) ≡ Some (map letter s.commands, third) =
    ap (λ n. second_line_at n (second ++ third)) (sym (length-map s.commands letter)) ∙ second_line_again (map letter s.commands) third in
    let c : commands_at (size s.field) (map letter s.commands) third ≡ Some (s.commands, []) =
    ap (commands_at (size s.field) (map letter s.commands)) (sym (append-nil third)) ∙ commands_again (size s.field) s.commands [] (size_small s.field) is.each in
    rw (short, h, l, c) refl

pub text_read : (text : List ℕ) (s : ScriptValue) → script_at text ≡ Some s → Prints s text
text_read text s e = let t = script_takes text s e in record { script = t.0; same = t.1 }

pub text_again : (text : List ℕ) (s : ScriptValue) → Prints s text → script_at text ≡ Some s
text_again text s is = ap script_at (sym is.same) ∙ script_again s is.script

pub printed_once : (s t : ScriptValue) → IsScript s → IsScript t → printed s ≡ printed t → s ≡ t
printed_once s t s-is t-is same = same_Some s t (sym (script_again s s-is) ∙ ap script_at same ∙ script_again t t-is)
