-- Models of stores and members, and their invariants.
use Rattle.std.specs.Prelude.{◌≡◌, ◌≤◌, All, ℕ, List, None, refl}
use Rattle.std.specs.Ordering.{nat_cmp}
use Rattle.std.specs.FinMap as map
use Rattle.std.specs.FinSet as set
use Rattle.std.specs.Coded.{Coded, code_by, coded×, coded_ℕ, coded_list}
use Rattle.moc_lists.specs.RangeList.{NumberSet}
use Rattle.moc_shared.specs.Clients.{IsClientOf}
use Rattle.moc_shared.specs.contracts.client.Client as client
use Rattle.moc_shared.specs.contracts.map.SharedMap as shared_map
use Rattle.moc_shared.specs.declared.client.Client.{Client}
use Rattle.moc_shared.specs.declared.map.SharedMap.{SharedMap}
use Rattle.moc_c.specs.Contents.{Contents}
use Rattle.moc_c.specs.Membership.{Membership}

-- no set has an id that is still to come
abbrev pub IsEmptyFrom : ℕ → map.FinMap nat_cmp NumberSet → Type 0
IsEmptyFrom next sets = (id : ℕ) → next ≤ id → map.get sets id ≡ None

-- the contents of a store
abbrev pub contents_code : Coded Contents
contents_code =
    code_by (map.FinMap nat_cmp NumberSet × (ℕ × List ℕ))
    (coded× (map.code coded_ℕ (set.code coded_ℕ)) (coded× coded_ℕ (coded_list coded_ℕ)))
    (λ d. (d.sets, (d.next, d.text))) (λ p. record { sets = p.0; next = p.1.0; text = p.1.1 }) (λ _. refl)

-- a member
abbrev pub membership_code : Coded Membership
membership_code =
    code_by (SharedMap × (Client × List Client))
    (coded× shared_map.the_row.coded (coded× client.the_row.coded (coded_list client.the_row.coded)))
    (λ m. (m.map, (m.client, m.unassigned))) (λ p. record { map = p.0; client = p.1.0; unassigned = p.1.1 }) (λ _. refl)

-- all are clients of the map
abbrev pub AreMembers : SharedMap → Client → List Client → Type 0
AreMembers map client unassigned = IsClientOf map client × All (λ c. IsClientOf map c) unassigned
