-- `moc_client_open` creates a handle in the memory that it is given, or leaves the memory unused.
use Rattle.std.proofs.Common.{◌≡◌, ℕ, List, [], ◌∷◌, ◌++◌, refl, sym, ap, ◌∙◌, subst, true, false, IfOk, lit<, T}
use seplogic.Ra.Ura.{Ura}
use base.Fraction.{full_share}
use mir.Syntax.{Body}
use mir.Val.{Val, vptr, vbool, vstruct, vnil, of_list, has_ty, WT}
use base.Logic.{SProp, ent, id⊢}
use base.Fml.{ftrue, fsep, feq, froom}
use prog.Wp.{WpFn, Wp, after_seq, at_return}
use types.Logic.{Logic}
use types.Kit.{Post as After, any_q, Goal, Seq, Item, ‵, raw, ◌⊛◌, some, later, at_ret, ◌$◌, ◌∵◌, !, qed, done, move, drop, use1, use2, split, join, fsplit, fjoin, fpick, fpack, feq_l, feq_i, pick, await, rewrite, suffices, group}
use types.Part.{whole}
use types.Match.{live, vrt, in_variant}
use types.Run.{enter, of_opd, true_lit, false_lit, stop, fld, init, no_more, and_then, assigns, first, exec, returns, switches_on}
use types.ByLocal.{alloc_all, pass_all, free_all, look_at, get, get_in, get_tag, through, sets, sets_last, lands_as, env}
use contract.Monad.{fact}
use contract.Running.{tables}
use denote.Exit.{yes}
use denote.RattleType.{RattleType, owns}
use denote.Memory.{part_at, lone}
use denote.RawPtr.{Ptr, RawPtr, block_ptr, ptr_val, lies_at, room_at, in_a_block}
use denote.Signature.{plain}
use denote.Param.{layout}
use denote.Steps.{nothing, heard, only}
use denote.Triple.Call.{calls_at}
use denote.Triple.Clauses.{lasts}
use denote.Triple.Spec.{triple_of}
use denote.Triple.Table.{framed}
use denote.Triple.Walked.{Stays, stay_dropped, Goes-dropped, walk_of, ends_at}
use borrow.Table.OneValue.{part_in}
use Rattle.std.proofs.raw_atomic.Walks.{proved_at}
use Rattle.std.proofs.alloc.Calls.{Fits, handle_tells}
use Rattle.std_alloc.proofs.ResultValues.{and_tt}
use Rattle.std_alloc.proofs.VecSteps.Shapes.{after, head, arm_body}
use Rattle.std_alloc.proofs.BoxSteps.Form as box
use Rattle.std_alloc.proofs.BoxSteps.Steps.{box_out, box_in}
use Rattle.std_heap.specs.contracts.Global as Heap
use Rattle.std.specs.declared.result.Result.TheVariants.{Ok, Err}
use Rattle.std.specs.contracts.result.Result as RS
use Rattle.std.specs.contracts.alloc.AllocError as AE
use Rattle.moc_c.specs.Sharing.{no_client}
use Rattle.moc_c.specs.declared.client_state.ClientState.{ClientState}
use Rattle.moc_c.proofs.AsStateBox.{E}
use Rattle.moc_c.specs.contracts.client_handle.ClientHandle as ClientHandle
use Rattle.moc_c.specs.contracts.client_opening.moc_client_open as f
use Rattle.moc_c.specs.contracts.client_opening.moc_client_open.Key.{name as #self}
use Rattle.moc_c.proofs.client_opening.moc_client_open.Statement.{statement}
use Rattle.moc_c.proofs.client_opening.moc_client_open.Code as code
use Rattle.moc_c.specs.contracts.client_handle.ClientHandle.empty as g
use Rattle.moc_c.proofs.client_handle.ClientHandle.empty.Met.{met}

abbrev B : RattleType
B = ClientHandle.the_row

abbrev boxed : B.Denot → box.D E
boxed d = record { ptr = d.ptr; alloc = d.alloc; value = d.contents }

abbrev Res : RattleType
Res = RS.the_row B AE.the_row

-- the ownership of a result: a handle, or nothing
module _ {M : Type 1} {𝓤 : Ura M} {𝓛 : Logic 𝓤} {K : Type 0} {Γ : List (Item 𝓤)} {G : Goal 𝓤 𝓛.H} where
  begun_tells : K → (r : Res.Denot) (u : Val)
      → ((d : B.Denot) (hv : Val) (b o : ℕ) → r ≡ Ok d → u ≡ live 0 (of_list (box.word E hv b o ∷ [])) → Fits E.al hv → Seq K 𝓛 (‵ (B.own_val d (box.word E hv b o ∷ [])) ∷ Γ) G)
      → (u ≡ live 1 (of_list (vstruct vnil ∷ [])) → Seq K 𝓛 Γ G) → Seq K 𝓛 (‵ (Res.own_val r (u ∷ [])) ∷ Γ) G
  begun_tells t (Ok d) u ok err =
      fpick t (λ pay. fsplit t $ feq_l t (λ eu. fpick t (λ vss. fsplit t $ feq_l t (λ ep. fsplit t $ move t (1 ∷ []) $ drop t $
      use1 𝓛 (‵ ((box.B E).own_val (boxed d) vss.0)) (id⊢ 𝓤 _) $ box_out E t (boxed d) vss.0 (λ b o hv at_b ws fa. box_in E t (boxed d) b o d.contents at_b refl $
      use1 𝓛 (‵ (B.own_val d (box.word E hv b o ∷ []))) (id⊢ 𝓤 _) $
      ok d hv b o refl (ap only eu ∙ (λ j. live 0 (of_list ((ep ∙ ap (λ (us : List Val). us ++ []) ws) j)))) fa)))))
  begun_tells t (Err x) u ok err =
      fpick t (λ pay. fsplit t $ feq_l t (λ eu. fpick t (λ vss. fsplit t $ feq_l t (λ ep. fsplit t $ move t (1 ∷ []) $ drop t $
      fpick t (λ us. fsplit t $ feq_l t (λ ev. drop t $
      err (ap only eu ∙ (λ j. live 1 (of_list ((ep ∙ ap (λ (ws : List Val). ws ++ []) ev) j))))))))))

-- the machine values of a result, at their type
some_typed : (w : Val) → T (has_ty (box.box_ty E) w) × WT w → T (has_ty (layout Res) (live 0 (of_list (w ∷ [])))) × WT (live 0 (of_list (w ∷ [])))
some_typed w typed = (and_tt (has_ty (box.box_ty E) w) typed.0, (record { fits = lit< tt }, (typed.1, tt)))

none_typed : T (has_ty (layout Res) (live 1 (of_list (vstruct vnil ∷ [])))) × WT (live 1 (of_list (vstruct vnil ∷ [])))
none_typed = (tt, (record { fits = lit< tt }, (tt, tt)))

abbrev stayed : Stays f.ended.signature.params f.ended.kept
stayed = (stay_dropped _ yes, (stay_dropped _ yes, tt))

pub moc_client_open_spec : {M : Type 1} → statement M
moc_client_open_spec 𝓤 𝓛 𝓜 𝓡 wired =
    let H = 𝓛.H in let 𝓣 = tables 𝓤 H 𝓜 𝓡 𝓡.env in let c = f.clauses 𝓛 𝓜.mem 𝓡.returns in let fn = code.function in
    proved_at 𝓛 f.ended stayed c 𝓜 𝓡 (Goes-dropped 𝓛 0 (plain (λ _. Heap.the_row)) yes (λ κs x w. refl), (Goes-dropped 𝓛 0 (plain (λ _. RawPtr)) yes (λ κs x w. refl), tt)) #self fn (code.unfolded 𝓤 H 𝓜 𝓡 wired) (λ z are.
    let Post : Val → SProp 𝓤 = (walk_of 𝓛 f.ended stayed c).post z in let Run : List Val → SProp 𝓤 = λ ws. WpFn 𝓤 H 𝓣.C 𝓣.Λ fn ws Post in
    let a = z.0.3.0 in let p : Ptr = z.0.3.1.0 in
    qed 𝓛 ((‵ ftrue ⊛ ‵ (owns (Heap.the_row ∷ RawPtr ∷ []) z.0.3 z.0.4)) ∷ ‵ (room_at B p) ∷ []) ∵ split ! $ drop ! $ fsplit ! $
    handle_tells E.al ! a z.0.4.0 (λ hv ea fa. move ! (1 ∷ []) $ fsplit ! $ feq_l ! (λ ev. drop ! $ move ! (1 ∷ []) $
    in_a_block ! p (λ q. room_at B q) (id⊢ 𝓤 _) (λ b o e.
    let args : (z.0.4.0 ++ (z.0.4.1.0 ++ [])) ≡ (hv ∷ vptr b o ∷ []) = λ j. ea j ++ ((ev ∙ ap (λ (q : Ptr). ptr_val q ∷ []) e) j ++ []) in
    use1 𝓛 (‵ (froom (lone B.mir) b o)) (id⊢ 𝓤 _) $
    suffices ! (Run (hv ∷ vptr b o ∷ [])) (subst (λ (us : List Val). ent 𝓤 (Run (hv ∷ vptr b o ∷ [])) (Run us)) (sym args) (id⊢ 𝓤 (Run (hv ∷ vptr b o ∷ [])))) $
    enter ! 𝓣.C 𝓣.Λ fn (hv ∷ vptr b o ∷ []) Post $ alloc_all ! (λ l. pass_all ! refl (fa, ((tt, tt), tt)) $
    let En = env fn.locals l in
    -- [the memory; the box; the locals]
    move ! (1 ∷ []) $ nothing ! $ move ! (1 ∷ 0 ∷ []) $ fjoin ! $ nothing ! $ join ! $ nothing ! $ move ! (1 ∷ 0 ∷ []) $
    let k = triple_of 𝓛 g.signature (g.spec 𝓛 𝓜.mem 𝓡.returns) in let y : k.Ghost = ((tt, tt, tt, (a, tt), (hv ∷ [], tt)), tt) in
    use2 𝓛 (raw (k.pre y)) (id⊢ 𝓤 _) $
    calls_at ! (framed 𝓤 H 𝓜 𝓣) k (met 𝓤 𝓛 𝓜 𝓡 (code.calls-moc_c::client_handle::ClientHandle::empty 𝓡.env wired)) y (and_then ! (get ! refl) (no_more !)) (λ u.
    use1 𝓛 (later (some (λ (r : Res.Denot). (‵ ftrue ⊛ ‵ (Res.own_val r (u ∷ []))) ⊛ some (λ (ws : Unit {0} × Unit {0}). ‵ (lasts g.ended tt (a, tt) ws) ⊛ raw (fact 𝓤 (IfOk r (λ d. d.contents ≡ no_client))))))) (id⊢ 𝓤 _) $
    await ! tt $ pick ! (λ r. split ! $ move ! (1 ∷ []) $ pick ! (λ ws. split ! $ drop ! $ heard ! (IfOk r (λ d. d.contents ≡ no_client)) (λ told. split ! $ drop ! $
    let both : Body = head (after 1 fn.body) in
    let Then : After 𝓤 H = any_q (after_seq 𝓤 H (Wp 𝓤 H 𝓣.C 𝓣.Λ En (after 2 fn.body) (at_return 𝓤 H En Post)) (at_return 𝓤 H En Post)) in
    begun_tells ! r u
    (λ d hv' b' o' is eu fd.
    let w : Val = box.word E hv' b' o' in let typed = box.box_typed E hv' b' o' fd in let told_empty = subst (λ (x : Res.Denot). IfOk x (λ d'. d'.contents ≡ no_client)) is told in
    -- [the handle; the memory; the locals]
    lands_as ! eu refl (some_typed w typed) $ first ! $ switches_on ! (get_tag ! (vrt ! refl (fld ! refl (stop !))) (whole !)) $ exec ! 𝓣.C 𝓣.Λ En (arm_body 0 both) Then $
    sets ! (of_opd ! (get_in ! (vrt ! refl (fld ! refl (stop !))) (in_variant ! 0 0 refl refl (whole !)))) refl typed $
    sets ! (of_opd ! (get ! refl)) refl typed $
    assigns ! (of_opd ! (get ! refl)) (through ! refl (stop !)) (init ! 1 refl typed) $
    sets_last ! (of_opd ! (true_lit !)) refl (tt, tt) $
    exec ! 𝓣.C 𝓣.Λ En (after 2 fn.body) (at_ret En Post) $ sets ! (of_opd ! (get ! refl)) refl (tt, tt) $ returns ! (look_at ! 0 refl) $ free_all ! refl $
    move ! (1 ∷ 0 ∷ []) $ use2 𝓛 (‵ (part_at B full_share d b o)) (part_in 𝓛 B refl full_share d b o w) $ use1 𝓛 (‵ (lies_at B full_share (block_ptr b o) d)) (id⊢ 𝓤 _) $
    rewrite ! 0 (λ (q : Ptr). ‵ (lies_at B full_share q d)) (sym e) refl $
    feq_i ! ClientState d.contents no_client told_empty $ fjoin ! $ fpack ! B.Denot (λ h. fsep (feq ClientState h.contents no_client) (lies_at B full_share p h)) d $
    suffices ! _ (ends_at 𝓛 f.ended stayed c z (vbool true) true (tt, (tt, tt)) (tt, (tt, tt))) $
    feq_i ! (List Val) (vbool true ∷ []) (vbool true ∷ []) refl $ nothing ! $ nothing ! $ join ! $ nothing ! $ join ! $ nothing ! $ group ! 3 $ done !)
    (λ eu.
    -- [the memory; the locals]
    lands_as ! eu refl none_typed $ first ! $ switches_on ! (get_tag ! (vrt ! refl (fld ! refl (stop !))) (whole !)) $ exec ! 𝓣.C 𝓣.Λ En (arm_body 1 both) Then $
    sets_last ! (of_opd ! (false_lit !)) refl (tt, tt) $
    exec ! 𝓣.C 𝓣.Λ En (after 2 fn.body) (at_ret En Post) $ sets ! (of_opd ! (get ! refl)) refl (tt, tt) $ returns ! (look_at ! 0 refl) $ free_all ! refl $
    use1 𝓛 (‵ (room_at B (block_ptr b o))) (id⊢ 𝓤 _) $ rewrite ! 0 (λ (q : Ptr). ‵ (room_at B q)) (sym e) refl $
    suffices ! _ (ends_at 𝓛 f.ended stayed c z (vbool false) false (tt, (tt, tt)) (tt, (tt, tt))) $
    feq_i ! (List Val) (vbool false ∷ []) (vbool false ∷ []) refl $ nothing ! $ nothing ! $ join ! $ nothing ! $ join ! $ nothing ! $ group ! 3 $ done !))))))))))
