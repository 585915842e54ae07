-- The parts that a midway client holds, from its counts and flags.
use Rattle.std.proofs.Common.{◌≡◌, ℕ, zero, suc, ◌<◌, ◌≤◌, Bool, true, false, cond, ◌||◌, ◌≢◌, inl, inr, List, [], ◌∷◌}
use Rattle.std.proofs.Common.{length, take, Option, None, Some, is_some, nat_eq, slice_get, refl, sym, ap, subst, ◌∙◌}
use Rattle.std.proofs.Common.{arith, eq-eqb, eqb-true}
use Rattle.std.specs.List.{filter, list_any}
use Rattle.std.specs.Ordering.{nat_cmp, eq_by_cmp}
use Rattle.std.specs.FinSet as set
use Rattle.std.specs.FinMap as map
use Rattle.moc_parts.specs.Objects.{Object}
use Rattle.moc_steps.specs.Machine.{Running, Clients, twelve, footprint_parts, next_part, has_taken, holds}
use Rattle.moc_steps.specs.Machine.{holder}
use Rattle.moc_steps.proofs.Cases.{holder_among, is_in, holds_in_call}
use Rattle.moc_steps.proofs.Basics.{or_true, or_left, or_right, or_assoc_right, absurd_bool, not_true_false, true_or_false}
use Rattle.moc_steps.proofs.Basics.{some_same}
use Rattle.std.specs.Cmp.{unsigned_tied}

pub in_twelve : (b : ℕ) → b < 12 → is_in b twelve ≡ true
in_twelve zero h = refl
in_twelve (suc zero) h = refl
in_twelve (suc (suc zero)) h = refl
in_twelve (suc (suc (suc zero))) h = refl
in_twelve (suc (suc (suc (suc zero)))) h = refl
in_twelve (suc (suc (suc (suc (suc zero))))) h = refl
in_twelve (suc (suc (suc (suc (suc (suc zero)))))) h = refl
in_twelve (suc (suc (suc (suc (suc (suc (suc zero))))))) h = refl
in_twelve (suc (suc (suc (suc (suc (suc (suc (suc zero)))))))) h = refl
in_twelve (suc (suc (suc (suc (suc (suc (suc (suc (suc zero))))))))) h = refl
in_twelve (suc (suc (suc (suc (suc (suc (suc (suc (suc (suc zero)))))))))) h = refl
in_twelve (suc (suc (suc (suc (suc (suc (suc (suc (suc (suc (suc zero))))))))))) h = refl
in_twelve (suc (suc (suc (suc (suc (suc (suc (suc (suc (suc (suc (suc b)))))))))))) h = absurd (omega arith)

below_of : (n : ℕ) (xs : List ℕ) → ((i x : ℕ) → slice_get xs i ≡ Some x → x < n) → (b : ℕ) → is_in b xs ≡ true → b < n
below_of n [] each b h = absurd (cc)
below_of n (x ∷ xs) each b h = elim (or_true (nat_eq x b) (is_in b xs) h) [
  | inl e ↦ subst (λ y. y < n) (eqb-true x b e) (each 0 x refl)
  | inr e ↦ below_of n xs (λ i y g. each (suc i) y g) b e
]

pub of_twelve : (b : ℕ) → is_in b twelve ≡ true → b < 12
of_twelve b h = elim (or_true _ _ h) [
  | inl e ↦ le 0 e (omega arith)
  | inr h1 ↦
      elim (or_true _ _ h1) [
        | inl e ↦ le 1 e (omega arith)
        | inr h2 ↦
            elim (or_true _ _ h2) [
              | inl e ↦ le 2 e (omega arith)
              | inr h3 ↦
                  elim (or_true _ _ h3) [
                    | inl e ↦ le 3 e (omega arith)
                    | inr h4 ↦
                        elim (or_true _ _ h4) [
                          | inl e ↦ le 4 e (omega arith)
                          | inr h5 ↦
                              elim (or_true _ _ h5) [
                                | inl e ↦ le 5 e (omega arith)
                                | inr h6 ↦
                                    elim (or_true _ _ h6) [
                                      | inl e ↦ le 6 e (omega arith)
                                      | inr h7 ↦
                                          elim (or_true _ _ h7) [
                                            | inl e ↦ le 7 e (omega arith)
                                            | inr h8 ↦
                                                elim (or_true _ _ h8) [
                                                  | inl e ↦ le 8 e (omega arith)
                                                  | inr h9 ↦
                                                      elim (or_true _ _ h9) [
                                                        | inl e ↦ le 9 e (omega arith)
                                                        | inr h10 ↦
                                                            elim (or_true _ _ h10) [
                                                              | inl e ↦ le 10 e (omega arith)
                                                              | inr h11 ↦
                                                                  elim (or_true _ _ h11) [ inl e ↦ le 11 e (omega arith) | inr h12 ↦ absurd (cc) ]
                                                            ]
                                                      ]
                                                ]
                                          ]
                                    ]
                              ]
                        ]
                  ]
            ]
      ]
]
  where
    le : (n : ℕ) → nat_eq n b ≡ true → n < 12 → b < 12
    le n e l = subst (λ y. y < 12) (eqb-true n b e) l

pub in_filter : (test : ℕ → Bool) (b : ℕ) → test b ≡ true → (xs : List ℕ) → is_in b xs ≡ true → is_in b (filter test xs) ≡ true
in_filter test b t [] h = h
in_filter test b t (x ∷ xs) h =
    elim (true_or_false (test x)) [
      | inl e ↦ subst (λ c. is_in b (cond c (x ∷ filter test xs) (filter test xs)) ≡ true) (sym e)
          (elim (or_true (nat_eq x b) (is_in b xs) h) [
            | inl q ↦ or_left (nat_eq x b) _ q
            | inr q ↦ or_right (nat_eq x b) _ (in_filter test b t xs q)
          ])
      | inr e ↦ subst (λ c. is_in b (cond c (x ∷ filter test xs) (filter test xs)) ≡ true) (sym e)
          (elim (or_true (nat_eq x b) (is_in b xs) h) [
            | inl q ↦ absurd_bool (test x) (ap test (eqb-true x b q) ∙ t) e
            | inr q ↦ in_filter test b t xs q
          ])
    ]

pub of_filter : (test : ℕ → Bool) (b : ℕ) (xs : List ℕ) → is_in b (filter test xs) ≡ true → (is_in b xs ≡ true) × (test b ≡ true)
of_filter test b [] h = absurd (cc)
of_filter test b (x ∷ xs) h = go (of_filter test b xs) (test x) refl h
  where
    go : (is_in b (filter test xs) ≡ true → (is_in b xs ≡ true) × (test b ≡ true)) → (c : Bool) → test x ≡ c → is_in b (cond c (x ∷ filter test xs) (filter test xs)) ≡ true → (is_in b (x ∷ xs) ≡ true) × (test b ≡ true)
    go rest true e h = elim (or_true (nat_eq x b) (is_in b (filter test xs)) h) [
      | inl q ↦ (or_left (nat_eq x b) _ q, ap test (sym (eqb-true x b q)) ∙ e)
      | inr q ↦ let r = rest q in (or_right (nat_eq x b) _ r.0, r.1)
    ]
    go rest false e h = let r = rest h in (or_right (nat_eq x b) _ r.0, r.1)

contained_in_take : (b : ℕ) (n : ℕ) (xs : List ℕ) → is_in b (take n xs) ≡ true → is_in b xs ≡ true
contained_in_take b zero xs h = absurd (cc)
contained_in_take b (suc n) [] h = h
contained_in_take b (suc n) (x ∷ xs) h = elim (or_true (nat_eq x b) (is_in b (take n xs)) h) [ inl e ↦ or_left (nat_eq x b) _ e | inr e ↦ or_right (nat_eq x b) _ (contained_in_take b n xs e) ]

or_with_false : (x : Bool) → (x || false) ≡ (false || x)
or_with_false true = refl
or_with_false false = refl

pub take_next : (b n q : ℕ) (xs : List ℕ) → slice_get xs n ≡ Some q → is_in b (take (suc n) xs) ≡ (is_in b (take n xs) || nat_eq q b)
take_next b n q [] h = absurd (cc)
take_next b zero q (x ∷ xs) h = or_with_false (nat_eq x b) ∙ ap (λ y. nat_eq y b) (some_same (Some x) x q refl h)
take_next b (suc n) q (x ∷ xs) h = ap (λ t. nat_eq x b || t) (take_next b n q xs h) ∙ or_assoc_right (nat_eq x b) _ _

in_get : (n q : ℕ) (xs : List ℕ) → slice_get xs n ≡ Some q → is_in q xs ≡ true
in_get n q [] h = absurd (cc)
in_get zero q (x ∷ xs) h = or_left (nat_eq x q) _ (eq-eqb x q (some_same (Some x) x q refl h))
in_get (suc n) q (x ∷ xs) h = or_right (nat_eq x q) _ (in_get n q xs h)

get_none : (xs : List ℕ) (n : ℕ) → slice_get xs n ≡ None → length xs ≤ n
get_none [] n h = omega arith
get_none (x ∷ xs) zero h = absurd (cc)
get_none (x ∷ xs) (suc n) h = let l = get_none xs n h in omega arith

take_beyond_length : (xs : List ℕ) (n : ℕ) → length xs ≤ n → take n xs ≡ xs
take_beyond_length [] zero h = refl
take_beyond_length [] (suc n) h = refl
take_beyond_length (x ∷ xs) zero h = absurd (omega arith)
take_beyond_length (x ∷ xs) (suc n) h = ap (λ ys. x ∷ ys) (take_beyond_length xs n (omega arith))

-- the list is strictly ascending and starts at lo or later
abbrev IsAscendingFrom : ℕ → List ℕ → Type 0
IsAscendingFrom lo [] = Unit {0}
IsAscendingFrom lo (x ∷ xs) = (lo ≤ x) × IsAscendingFrom (suc x) xs

ascending_from_less : (lo lo' : ℕ) (xs : List ℕ) → lo ≤ lo' → IsAscendingFrom lo' xs → IsAscendingFrom lo xs
ascending_from_less lo lo' [] l h = tt
ascending_from_less lo lo' (x ∷ xs) l h = (let k : lo' ≤ x = h.0 in omega arith, h.1)

ascending_from_filter : (test : ℕ → Bool) (lo : ℕ) (xs : List ℕ) → IsAscendingFrom lo xs → IsAscendingFrom lo (filter test xs)
ascending_from_filter test lo [] h = tt
ascending_from_filter test lo (x ∷ xs) h = go (test x) (ascending_from_filter test (suc x) xs h.1)
  where
    go : (c : Bool) → IsAscendingFrom (suc x) (filter test xs) → IsAscendingFrom lo (cond c (x ∷ filter test xs) (filter test xs))
    go true r = (h.0, r)
    go false r = ascending_from_less lo (suc x) (filter test xs) (let k : lo ≤ x = h.0 in omega arith) r

twelve_ascending : IsAscendingFrom 0 twelve
twelve_ascending = (omega arith, (omega arith, (omega arith, (omega arith, (omega arith, (omega arith, (omega arith, (omega arith, (omega arith, (omega arith, (omega arith, (omega arith, tt))))))))))))

at_least : (lo b : ℕ) (xs : List ℕ) → IsAscendingFrom lo xs → is_in b xs ≡ true → lo ≤ b
at_least lo b [] r h = absurd (cc)
at_least lo b (x ∷ xs) r h = elim (or_true (nat_eq x b) (is_in b xs) h) [
  | inl e ↦ subst (λ y. lo ≤ y) (eqb-true x b e) r.0
  | inr e ↦ let k : suc x ≤ b = at_least (suc x) b xs r.1 e in let l : lo ≤ x = r.0 in omega arith
]

-- every element before the index of q is less than q
before_place : (lo n q b : ℕ) (xs : List ℕ) → IsAscendingFrom lo xs → slice_get xs n ≡ Some q → is_in b (take n xs) ≡ true → b < q
before_place lo n q b [] r g h = absurd (cc)
before_place lo zero q b (x ∷ xs) r g h = absurd (cc)
before_place lo (suc n) q b (x ∷ xs) r g h = elim (or_true (nat_eq x b) (is_in b (take n xs)) h) [
  | inl e ↦ subst (λ y. y < q) (eqb-true x b e) (at_least (suc x) q xs r.1 (in_get n q xs g))
  | inr e ↦ before_place (suc x) n q b xs r.1 g e
]

module _ {Op Reply : Type 0} (o : Object Op Reply) where
  parts_rise : (op : Op) → IsAscendingFrom 0 (footprint_parts o op)
  unfolding footprint_parts
  parts_rise op = ascending_from_filter (o.footprint op) 0 twelve twelve_ascending

  -- parts are taken in ascending order
  pub taken_below : (r : Running Op) (q b : ℕ) → next_part o r ≡ Some q → has_taken o r b ≡ true → b < q
  unfolding next_part has_taken
  taken_below r q b n h = before_place 0 r.taken q b (footprint_parts o r.operation) (parts_rise r.operation) n h

  in_parts : (op : Op) (b : ℕ) → b < 12 → o.footprint op b ≡ true → is_in b (footprint_parts o op) ≡ true
  unfolding footprint_parts
  in_parts op b l f = in_filter (o.footprint op) b f twelve (in_twelve b l)

  of_parts : (op : Op) (b : ℕ) → is_in b (footprint_parts o op) ≡ true → (b < 12) × (o.footprint op b ≡ true)
  unfolding footprint_parts
  of_parts op b h = let g = of_filter (o.footprint op) b twelve h in (of_twelve b g.0, g.1)

  -- a client without a next part has taken its whole footprint
  pub has_all : (r : Running Op) (b : ℕ) → next_part o r ≡ None → b < 12 → o.footprint r.operation b ≡ true → has_taken o r b ≡ true
  unfolding next_part has_taken
  has_all r b none l f =
      subst (λ xs. is_in b xs ≡ true) (sym (take_beyond_length (footprint_parts o r.operation) r.taken (get_none (footprint_parts o r.operation) r.taken none)))
      (in_parts r.operation b l f)

  pub taken_footprint : (r : Running Op) (b : ℕ) → has_taken o r b ≡ true → (b < 12) × (o.footprint r.operation b ≡ true)
  unfolding has_taken
  taken_footprint r b h = of_parts r.operation b (contained_in_take b r.taken (footprint_parts o r.operation) h)

  -- a client without a next part has taken exactly its footprint
  pub footprint_is_taken : (r : Running Op) (b : ℕ) → next_part o r ≡ None → b < 12 → has_taken o r b ≡ o.footprint r.operation b
  footprint_is_taken r b none l = elim (true_or_false (o.footprint r.operation b)) [
    | inl f ↦ has_all r b none l f ∙ sym f
    | inr f ↦ not_true_false (has_taken o r b) (λ t. absurd_bool (o.footprint r.operation b) (taken_footprint r b t).1 f) ∙ sym f
  ]

  pub next_footprint : (r : Running Op) (q : ℕ) → next_part o r ≡ Some q → (q < 12) × (o.footprint r.operation q ≡ true)
  unfolding next_part
  next_footprint r q h = of_parts r.operation q (in_get r.taken q (footprint_parts o r.operation) h)

  pub taken-next : (r : Running Op) (q b : ℕ) → next_part o r ≡ Some q → has_taken o (record r { taken = suc r.taken }) b ≡ (has_taken o r b || nat_eq q b)
  unfolding next_part has_taken
  taken-next r q b h = take_next b r.taken q (footprint_parts o r.operation) h

  pub nothing_taken : (n : ℕ) (op : Op) (edited given : set.FinSet nat_cmp) (quits : Bool) (b : ℕ) →
      has_taken o (record { number = n; operation = op; taken = 0; edited = edited; given = given; quits = quits }) b ≡ false
  unfolding has_taken
  nothing_taken n op edited given quits b = refl

  -- the taken parts depend only on the operation and the count
  pub taken_alike : (r s : Running Op) → r.operation ≡ s.operation → r.taken ≡ s.taken → (b : ℕ) → has_taken o r b ≡ has_taken o s b
  unfolding has_taken
  taken_alike r s e f b = ap (λ n. is_in b (take n (footprint_parts o r.operation))) f ∙ ap (λ op. is_in b (take s.taken (footprint_parts o op))) e

  pub next_alike : (r s : Running Op) → r.operation ≡ s.operation → r.taken ≡ s.taken → next_part o r ≡ next_part o s
  unfolding next_part
  next_alike r s e f = ap (λ n. slice_get (footprint_parts o r.operation) n) f ∙ ap (λ op. slice_get (footprint_parts o op) s.taken) e

  -- the search finds the client that holds a part
  holds_now_of : (m : Clients Op) (c b : ℕ) (r : Running Op) → map.get m c ≡ Some r → holds_in_call o (map.get m c) b ≡ holds o r b
  holds_now_of m c b r e = ap (λ x. holds_in_call o x b) e

  among_none : (m : Clients Op) (cs : List ℕ) (b c : ℕ) → holder_among o m cs b ≡ None → is_in c cs ≡ true → holds_in_call o (map.get m c) b ≡ false
  among_none m [] b c h i = absurd (cc)
  among_none m (x ∷ cs) b c h i = go (among_none m cs b c) (holds_in_call o (map.get m x) b) refl h
    where
      go : (holder_among o m cs b ≡ None → is_in c cs ≡ true → holds_in_call o (map.get m c) b ≡ false) → (t : Bool) → holds_in_call o (map.get m x) b ≡ t → cond t (Some x) (holder_among o m cs b) ≡ None → holds_in_call o (map.get m c) b ≡ false
      go rest true e h = absurd (cc)
      go rest false e h = elim (or_true (nat_eq x c) (is_in c cs) i) [
        | inl q ↦ subst (λ y. holds_in_call o (map.get m y) b ≡ false) (eqb-true x c q) e
        | inr q ↦ rest h q
      ]

  among_some : (m : Clients Op) (cs : List ℕ) (b c : ℕ) → holder_among o m cs b ≡ Some c → holds_in_call o (map.get m c) b ≡ true
  among_some m [] b c h = absurd (cc)
  among_some m (x ∷ cs) b c h = go (among_some m cs b c) (holds_in_call o (map.get m x) b) refl h
    where
      go : (holder_among o m cs b ≡ Some c → holds_in_call o (map.get m c) b ≡ true) → (t : Bool) → holds_in_call o (map.get m x) b ≡ t → cond t (Some x) (holder_among o m cs b) ≡ Some c → holds_in_call o (map.get m c) b ≡ true
      go rest true e h = subst (λ y. holds_in_call o (map.get m y) b ≡ true) (some_same (Some x) x c refl h) e
      go rest false e h = rest h

  now_holds : (x : Option (Running Op)) (b : ℕ) → holds_in_call o x b ≡ true → (r : Running Op) × (x ≡ Some r) × (holds o r b ≡ true)
  now_holds None b h = absurd (cc)
  now_holds (Some r) b h = (r, refl, h)

  pub holder_holds : (m : Clients Op) (b c : ℕ) → holder o m b ≡ Some c → (r : Running Op) × (map.get m c ≡ Some r) × (holds o r b ≡ true)
  unfolding holder
  holder_holds m b c h = now_holds (map.get m c) b (among_some m (map.keys m) b c h)

  any_swap : (c : ℕ) (ks : List ℕ) → list_any (eq_by_cmp nat_cmp c) ks ≡ is_in c ks
  any_swap c [] = refl
  any_swap c (k ∷ ks) = ap (λ t. t || list_any (eq_by_cmp nat_cmp c) ks) (unsigned_tied c k ∙ nat_eq_swap c k) ∙ ap (λ t. nat_eq k c || t) (any_swap c ks)
    where
      nat_eq_swap : (x y : ℕ) → nat_eq x y ≡ nat_eq y x
      nat_eq_swap x y = grind (arith, eq-eqb, eqb-true, not_true_false)

  pub nobody_holds : (m : Clients Op) (b c : ℕ) (r : Running Op) → holder o m b ≡ None → map.get m c ≡ Some r → holds o r b ≡ false
  unfolding holder
  nobody_holds m b c r h e =
      sym (holds_now_of m c b r e)
      ∙ among_none m (map.keys m) b c h (sym (any_swap c (map.keys m)) ∙ sym (map.contains_key-keys m c) ∙ ap is_some e)

  pub key_of : (m : Clients Op) (c : ℕ) (r : Running Op) → map.get m c ≡ Some r → is_in c (map.keys m) ≡ true
  key_of m c r e = sym (any_swap c (map.keys m)) ∙ sym (map.contains_key-keys m c) ∙ ap is_some e

  first_in : (b : ℕ) (n : ℕ) (xs : List ℕ) → is_in b xs ≡ true → n ≢ 0 → (q : ℕ) × (is_in q (take n xs) ≡ true)
  first_in b n [] h d = absurd (cc)
  first_in b zero (x ∷ xs) h d = absurd (d refl)
  first_in b (suc n) (x ∷ xs) h d = (x, or_left _ _ (eq-eqb x x refl))

  -- a client that has taken at least one part has taken a part of its footprint
  pub took_one : (r : Running Op) (b : ℕ) → b < 12 → o.footprint r.operation b ≡ true → r.taken ≢ 0 → (q : ℕ) × (has_taken o r q ≡ true)
  unfolding has_taken
  took_one r b l f d = first_in b r.taken (footprint_parts o r.operation) (in_parts r.operation b l f) d
