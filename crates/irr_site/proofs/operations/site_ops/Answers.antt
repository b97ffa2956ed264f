use Rattle.irr_site.proofs.operations.site_ops.Goals as goal
