-- Findings laid one after the other. `texts-least` lines are no shorter than their keys · `Laying` those of the lines before a position are laid:
-- `laying-start`, `laying-key` there is room for one more key, `laying-lost` for one more lost line, `laying-step`, `laying-end`, `laying-bad`.
-- Assumes nothing.
use Rattle.std.specs.Prelude.{◌≡◌, refl, Bool, true, false, not, List, [], ◌∷◌, ◌++◌, map, ℕ, suc, ◌+◌, ◌*◌, ◌≤◌, length, set, drop}
use Rattle.std.proofs.Common.{sym, ap, ◌∙◌, subst, append_assoc, append-nil, arith, length-append, length-drop, drop-drop}
use Rattle.std.proofs.lemmas.List.{map-append, length-map, drop-set-add}
use Rattle.std.proofs.lemmas.List.Edits.{sets, sets-eq}
use Rattle.std.proofs.Math.Seq.{length-sets, take-append_seam, drop-append-add}
use Rattle.laws.specs.Stores.{Wrote}
use Rattle.table.specs.Entries.{holds}
use Rattle.sorting.specs.Sorting.{key_width, key_in, firsts, keys_in}
use Rattle.sorting.specs.Keys.{Put, key-before}
use Rattle.sorting.specs.KeyLaws.{firsts-length, firsts_same}
use Rattle.findings.specs.Findings.{entry_at, point_of, keep, lost, stands_text, lost_text, texts}
use Rattle.findings.specs.EntryLaws.{shortest_line}
use Rattle.findings.specs.TextLengths.{stands-least}
use Rattle.findings.specs.KeepLaws.{keep_join, texts-join, texts-one}
use Rattle.findings.specs.StandingLaws.{on_plan}
use Rattle.findings.specs.ListLaws.{Lines, sound-lines, lines_end, lines-bad, lines-good}
use Rattle.findings.specs.Judged.{found, AllSound, parts_of}
use Rattle.findings.specs.JudgeLaws.{plan-one, plan-stays, lost-one, lost-stays}
use Rattle.findings.specs.Ranks.{key_of}
use Rattle.findings.specs.Laying.{Lays, lost_end, Laid}
use Rattle.findings.specs.declared.line.Finding.{Finding}
use Rattle.findings.specs.declared.line.Entry.TheVariants.{Good, Bad, End}

-- one key more
pub keys-one : (o : List ℕ) (k : ℕ) → keys_in o (k + 1) ≡ keys_in o k ++ key_in o k ∷ []
unfolding firsts
keys-one o k = let e : k + 1 ≡ suc k = omega arith in ap (keys_in o) e

-- lines are no shorter than their keys
pub texts-least : (l : List ℕ) (fs : List Finding) → shortest_line * length fs ≤ length (texts (stands_text l) fs)
unfolding texts
texts-least l [] = omega arith
texts-least l (f ∷ fs) = omega (arith, texts-least l fs, stands-least l f, length-append (stands_text l f) (texts (stands_text l) fs))

-- stores past the first n bytes
stored_past : (vs o : List ℕ) (n i : ℕ) → drop n (sets o (n + i) vs) ≡ sets (drop n o) i vs
stored_past [] o n i = refl
stored_past (v ∷ vs) o n i =
    let e : suc (n + i) ≡ n + suc i = omega arith in
    ap (λ (x : ℕ). drop n (sets (set o (n + i) v) x vs)) e ∙ stored_past vs (set o (n + i) v) n (suc i)
    ∙ ap (λ (x : List ℕ). sets x (suc i) vs) (drop-set-add n o i v)

-- bytes stored behind others
stored-behind : (ws xs rest : List ℕ) → length xs ≤ length rest → sets (ws ++ rest) (length ws) xs ≡ ws ++ xs ++ drop (length xs) rest
stored-behind ws xs rest h =
    let room : length ws + length xs ≤ length (ws ++ rest) = omega (arith, length-append ws rest) in
    sets-eq xs (ws ++ rest) (length ws) room
    ∙ (λ i. take-append_seam ws rest i ++ xs ++ drop-append-add ws rest (length xs) i)

-- the findings of the lines before `at` are laid, which left o': k keys, and lost lines up to e
pub record Laying (t l : List ℕ) (start : ℕ) (o o' : List ℕ) (at k e : ℕ) : Type 0 where
  pub passed : List Finding
  pub left : List Finding
  pub all : passed ++ left ≡ found l
  pub lines : Lines l at left
  pub laid : Laid t l start passed o o' k
  pub end : e ≡ lost_end t l start passed

pub laying-start : (t l : List ℕ) (start : ℕ) (o : List ℕ) → AllSound l → Laying t l start o o 0 0 start
unfolding firsts keep texts
laying-start t l start o sound =
    let z : start ≡ start + 0 = omega arith in
    record {
      passed = [];
      left = found l;
      all = refl;
      lines = sound-lines l (found l) sound;
      laid = record { keys = refl; lines = ap (λ (n : ℕ). drop n o) z; long = refl };
      end = z;
    }

module _ (t l : List ℕ) (start : ℕ) (o : List ℕ) (sound : AllSound l) (begin : start ≡ (parts_of t l (found l)).stands)
    (room : start + (parts_of t l (found l)).lost ≤ length o) where
  plan-long : start ≡ length (texts (stands_text l) (on_plan t (found l)))
  unfolding parts_of
  plan-long = begin

  lost-room : lost_end t l start (found l) ≤ length o
  unfolding parts_of
  lost-room = room

  keys-room : shortest_line * length (on_plan t (found l)) ≤ start
  keys-room = omega (arith, plan-long, texts-least l (on_plan t (found l)))

  module _ (o' : List ℕ) (at k e : ℕ) (w : Laying t l start o o' at k e) where
    keys-count : k ≡ length (on_plan t w.passed)
    keys-count = sym (firsts-length (key_in o') k) ∙ ap length w.laid.keys ∙ length-map (on_plan t w.passed) (key_of l)

    -- the findings laid are the first of all
    plan-split : (xs ys : List Finding) → xs ++ ys ≡ found l → length (on_plan t xs) ≤ length (on_plan t (found l))
    plan-split xs ys h =
        omega (
          arith,
          ap (λ (fs : List Finding). length (on_plan t fs)) h,
          ap length (keep_join (λ f. holds t (point_of f)) xs ys),
          length-append (on_plan t xs) (on_plan t ys),
        )

    keys_below_lem : key_width * k ≤ start
    keys_below_lem = omega (arith, keys-room, keys-count, plan-split w.passed w.left w.all)

    pub laying-end : entry_at l at ≡ End → Laid t l start (found l) o o' k
    laying-end h =
        let none = lines_end l at w.left w.lines h in
        let q : w.passed ≡ found l = sym (append-nil w.passed) ∙ ap (λ (x : List Finding). w.passed ++ x) (sym none) ∙ w.all in
        subst (λ (fs : List Finding). Laid t l start fs o o' k) q w.laid

    pub laying-bad : entry_at l at ≡ Bad → ⊥
    laying-bad h = lines-bad l at w.left w.lines h

    -- the finding of the next line
    module _ (f : Finding) (h : entry_at l at ≡ Good f) where
      abbrev more : List Finding
      more = w.passed ++ f ∷ []

      next : (gs : List Finding) × (w.left ≡ f ∷ gs) × Lines l f.next gs
      next = lines-good l at w.left f w.lines h

      all_more : more ++ next.0 ≡ found l
      all_more =
          append_assoc w.passed (f ∷ []) next.0 ∙ ap (λ (x : List Finding). w.passed ++ x) (sym next.1) ∙ w.all

      pub laying-key : holds t (point_of f) ≡ true → key_width * k + key_width ≤ start
      laying-key p =
          omega (
            arith,
            keys-room,
            keys-count,
            plan-split more next.0 all_more,
            ap length (plan-one t l w.passed f p),
            length-append (on_plan t w.passed) (f ∷ []),
          )

      end-one : holds t (point_of f) ≡ false → lost_end t l start more ≡ e + length (lost_text l f)
      end-one p =
          omega (
            arith,
            w.end,
            ap (λ (fs : List Finding). length (texts (lost_text l) fs)) (lost-one t l w.passed f p),
            ap length (texts-one (lost_text l) (lost t w.passed) f),
            length-append (texts (lost_text l) (lost t w.passed)) (lost_text l f),
          )

      pub laying-lost : holds t (point_of f) ≡ false → e + length (lost_text l f) ≤ length o'
      laying-lost p =
          omega (
            arith,
            lost-room,
            end-one p,
            w.laid.long,
            ap (λ (fs : List Finding). length (texts (lost_text l) (lost t fs))) all_more,
            ap (λ (fs : List Finding). length (texts (lost_text l) fs)) (keep_join (λ g. not (holds t (point_of g))) more next.0),
            ap length (texts-join (lost_text l) (lost t more) (lost t next.0)),
            length-append (texts (lost_text l) (lost t more)) (texts (lost_text l) (lost t next.0)),
          )

      step : (o'' : List ℕ) (k' e' : ℕ) → Laid t l start more o o'' k' → e' ≡ lost_end t l start more → Laying t l start o o'' f.next k' e'
      step o'' k' e' a b = record { passed = more; left = next.0; all = all_more; lines = next.2; laid = a; end = b }

      -- a key more
      with-key : holds t (point_of f) ≡ true → (o'' : List ℕ) → Put o' k (key_of l f) o'' → Laid t l start more o o'' (k + 1)
      with-key p o'' u =
          let same : lost t more ≡ lost t w.passed = lost-stays t l w.passed f p in
          record {
            keys =
                keys-one o'' k
                ∙ (λ i. firsts_same (key_in o'') (key_in o') k (λ j less. u.others j (omega arith)) i ++ u.here i ∷ [])
                ∙ ap (λ (x : List ℕ). x ++ key_of l f ∷ []) w.laid.keys
                ∙ sym (map-append (key_of l) (on_plan t w.passed) (f ∷ []))
                ∙ ap (map (key_of l)) (sym (plan-one t l w.passed f p));
            lines =
                u.past start (laying-key p) ∙ w.laid.lines
                ∙ ap (λ (fs : List Finding). texts (lost_text l) fs ++ drop (start + length (texts (lost_text l) fs)) o) (sym same);
            long = u.long ∙ w.laid.long;
          }

      -- a lost line more
      with-lost : holds t (point_of f) ≡ false → (o'' : List ℕ) (e' : ℕ) → Wrote o' e (lost_text l f) o'' e' → Laid t l start more o o'' k
      with-lost p o'' e' u =
          let ws = texts (lost_text l) (lost t w.passed) in
          let xs = lost_text l f in
          let rest = drop (lost_end t l start w.passed) o in
          let fits : length xs ≤ length rest = omega (arith, laying-lost p, w.end, w.laid.long, length-drop (lost_end t l start w.passed) o) in
          record {
            keys =
                firsts_same (key_in o'') (key_in o') k
                (λ j less. ap (λ (x : List ℕ). key_in x j) u.bytes ∙ key-before xs o' e j (omega (arith, keys_below_lem, w.end)))
                ∙ w.laid.keys ∙ ap (map (key_of l)) (sym (plan-stays t l w.passed f p));
            lines =
                ap (drop start) u.bytes ∙ ap (λ (n : ℕ). drop start (sets o' n xs)) w.end ∙ stored_past xs o' start (length ws)
                ∙ ap (λ (x : List ℕ). sets x (length ws) xs) w.laid.lines ∙ stored-behind ws xs rest fits
                ∙ ap (λ (x : List ℕ). ws ++ xs ++ x) (drop-drop (length xs) (lost_end t l start w.passed) o)
                ∙ (λ i. after i ++ drop (past i) o);
            long = ap length u.bytes ∙ length-sets o' e xs ∙ w.laid.long;
          }
        where
          after : texts (lost_text l) (lost t w.passed) ++ lost_text l f ≡ texts (lost_text l) (lost t more)
          after = sym (texts-one (lost_text l) (lost t w.passed) f) ∙ ap (texts (lost_text l)) (sym (lost-one t l w.passed f p))

          past : lost_end t l start w.passed + length (lost_text l f) ≡ lost_end t l start more
          past = omega (arith, end-one p, w.end)

      pub laying-step : (o'' : List ℕ) (k' e' : ℕ) → Lays (holds t (point_of f)) l f o' k e o'' k' e' → Laying t l start o o'' f.next k' e'
      laying-step o'' k' e' = go (holds t (point_of f)) refl
        where
          go : (b : Bool) → holds t (point_of f) ≡ b → Lays b l f o' k e o'' k' e' → Laying t l start o o'' f.next k' e'
          go true p (u, (ek, ee)) =
              step o'' k' e' (subst (Laid t l start more o o'') (sym ek) (with-key p o'' u))
              (ee ∙ w.end ∙ ap (λ (fs : List Finding). start + length (texts (lost_text l) fs)) (sym (lost-stays t l w.passed f p)))
          go false p (u, ek) = step o'' k' e' (subst (Laid t l start more o o'') (sym ek) (with-lost p o'' e' u)) (u.past ∙ sym (end-one p))
